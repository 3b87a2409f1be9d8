use Rattle.std.specs.Prelude.{ℕ, ◌<◌, FitsSigned, get_or, pos}
use Rattle.std.specs.Int.{w64}
use Rattle.d_types.proofs.meaning.built_ins_are_of_their_types.Given as goal

abbrev pub invariant-loop-number : goal.invariant-loop-number
invariant-loop-number l = (i : ℕ) → i < l.number → FitsSigned w64 (get_or l.firing.args i (pos 0))
