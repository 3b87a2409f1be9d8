use Rattle.std.proofs.Common.{◌≡◌, ◌≤◌, ◌+◌, []}
use Rattle.crossbeam_queue.specs.Passes.{view, IsPassOf}
use Rattle.shard_queue.specs.Hands.{hand}
use Rattle.shard_queue.specs.QueueRule.{among}
use Rattle.shard_queue.proofs.queue.GroupQueue.fill.Given as goal

abbrev pub invariant-loop : goal.invariant-loop
invariant-loop g l = IsPassOf l.self.queue l.pass × (view l.pass ≡ among l.self.workers (hand l.next l.self.workers 0 [])) × (l.next ≤ l.self.end + l.self.workers)
