use Rattle.std.proofs.Common.{◌↔◌, ◌∷◌, length}
use Rattle.replay_core.specs.Patterns.{Matches}
use Rattle.replay_core.proofs.selection.matching.is_match_anywhere.Given as goal

abbrev pub invariant-loop-run : goal.invariant-loop-run
invariant-loop-run l = Matches (42 ∷ l.fn.pattern) l.fn.text ↔ Matches (42 ∷ l.pattern) l.text

abbrev pub decreases-loop-run : goal.decreases-loop-run
decreases-loop-run l = length l.pattern
