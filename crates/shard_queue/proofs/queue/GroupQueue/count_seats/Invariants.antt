use Rattle.std.proofs.Common.{◌≡◌, []}
use Rattle.crossbeam_queue.specs.Passes.{view, IsPassOf}
use Rattle.shard_queue.specs.Hands.{hand}
use Rattle.shard_queue.specs.QueueRule.{among}
use Rattle.shard_queue.proofs.queue.GroupQueue.count_seats.Given as goal

abbrev pub invariant-loop : goal.invariant-loop
invariant-loop l = IsPassOf l.self.queue l.pass × (view l.pass ≡ among l.counter (hand 0 l.counter 0 []))
