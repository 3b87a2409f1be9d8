use Rattle.std.proofs.Common.{rules}
use Rattle.shard_queue.proofs.QueueSteps.{grows}
use Rattle.shard_queue.proofs.queue.GroupQueue.count_seats.Goals as goal

pub another-requires-clause-rule : goal.another-requires-clause-rule
another-requires-clause-rule c = grows _ _ _ c.loop.invariant.1 (search rules)
