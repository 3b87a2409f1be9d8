use Rattle.std.proofs.Common.{◌≡◌, length}
use Rattle.aggregations.proofs.word_key.with_parts.Given as goal

abbrev pub invariant-loop : goal.invariant-loop
invariant-loop l = length l.key ≡ l.counter
