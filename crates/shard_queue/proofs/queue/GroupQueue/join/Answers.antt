use Rattle.shard_queue.proofs.QueueSteps.{merges}
use Rattle.shard_queue.proofs.queue.GroupQueue.join.Goals as goal

pub absorb-requires-clause-rule : goal.absorb-requires-clause-rule
absorb-requires-clause-rule c = merges _ _ _ _ c.requires.pass.1
