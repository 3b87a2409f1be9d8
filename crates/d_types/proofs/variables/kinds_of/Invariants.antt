use Rattle.std.proofs.Common.{◌≡◌, ◌++◌, drop}
use Rattle.d_types.specs.Typed.{typeds_of}
use Rattle.d_types.specs.Variables as spec
use Rattle.d_types.proofs.variables.kinds_of.Given as goal

abbrev pub invariant-loop-key : goal.invariant-loop-key
invariant-loop-key l = l.kinds.items ++ spec.kinds_of_typed (typeds_of (drop l.key-index l.keys)) ≡ spec.kinds_of_typed (typeds_of l.keys)
