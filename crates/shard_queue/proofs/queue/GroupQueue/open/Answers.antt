use Rattle.shard_queue.proofs.QueueSteps.{begins}
use Rattle.shard_queue.proofs.queue.GroupQueue.open.Goals as goal

pub ruled-requires-clause-rule : goal.ruled-requires-clause-rule
ruled-requires-clause-rule g c = begins
