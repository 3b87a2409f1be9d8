use Rattle.std.proofs.Common.{◌≡◌, ◌≤◌, length}
use Rattle.d_parser.specs.Steps.Depth as spec
use Rattle.d_parser.proofs.limits.is_deep.Given as goal

abbrev pub invariant-loop-rest : goal.invariant-loop-rest
invariant-loop-rest l = record { same : spec.is_deep l.brackets l.row l.rest ≡ spec.is_deep 0 0 l.fn.tokens; shallow : l.brackets ≤ 64; short : l.row ≤ 1024 }

abbrev pub decreases-loop-rest : goal.decreases-loop-rest
decreases-loop-rest l = length l.rest
