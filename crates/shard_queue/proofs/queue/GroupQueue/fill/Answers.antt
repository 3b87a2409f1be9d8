use Rattle.std.proofs.Common.{refl}
use Rattle.shard_queue.proofs.QueueSteps.{puts}
use Rattle.shard_queue.proofs.queue.GroupQueue.fill.Goals as goal

pub try_push_as-requires-clause-rule : goal.try_push_as-requires-clause-rule
try_push_as-requires-clause-rule g c = puts _ _ _ _ _ _ c.loop.invariant.1 c.args.self.now.some_worker refl
