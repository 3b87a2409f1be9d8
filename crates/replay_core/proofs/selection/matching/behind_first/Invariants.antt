use Rattle.std.proofs.Common.{◌↔◌, ◌∷◌, ◌++◌, List, ℕ, length}
use Rattle.replay_core.specs.Patterns.{Matches}
use Rattle.replay_core.proofs.selection.matching.behind_first.Given as goal

abbrev pub invariant-loop-rest : goal.invariant-loop-rest
invariant-loop-rest l = (after : List ℕ) → Matches (42 ∷ (l.run ++ after)) l.fn.text ↔ Matches (42 ∷ (l.run ++ after)) l.rest

abbrev pub decreases-loop-rest : goal.decreases-loop-rest
decreases-loop-rest l = length l.rest
