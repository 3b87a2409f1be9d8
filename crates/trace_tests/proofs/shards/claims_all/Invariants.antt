use Rattle.shard_queue.specs.Boards.{IsAt}
use Rattle.trace_tests.proofs.shards.claims_all.Given as goal

abbrev pub invariant-loop : goal.invariant-loop
invariant-loop l = IsAt l.board l.seat
