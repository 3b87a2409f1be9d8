use Rattle.std.proofs.Common.{◌≡◌, length}
use Rattle.d_parser.specs.Steps.Script as spec
use Rattle.d_parser.proofs.description.after_colon.Given as goal

abbrev pub invariant-loop-rest : goal.invariant-loop-rest
invariant-loop-rest l = spec.after_colon l.rest ≡ spec.after_colon l.fn.bytes

abbrev pub decreases-loop-rest : goal.decreases-loop-rest
decreases-loop-rest l = length l.rest
