use Rattle.shard_queue.specs.Queues.{IsIn}
use Rattle.trace_tests.proofs.shards.takes_all.Given as goal

abbrev pub invariant-loop : goal.invariant-loop
invariant-loop g l = IsIn l.queue l.seat
