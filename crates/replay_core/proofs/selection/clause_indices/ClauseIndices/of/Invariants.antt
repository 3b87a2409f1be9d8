use Rattle.std.proofs.Common.{◌≡◌, take}
use Rattle.replay_core.proofs.selection.clause_indices.ClauseIndices.of.Given as goal

abbrev pub invariant-loop-index : goal.invariant-loop-index
invariant-loop-index l = l.all ≡ take l.index-index l.indices
