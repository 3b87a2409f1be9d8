use Rattle.std.proofs.Common.{length}
use Rattle.consumer.proofs.Dividing.{Passed}
use Rattle.consumer.proofs.bundle.first_lines.Given as goal

abbrev pub invariant-loop-line : goal.invariant-loop-line
invariant-loop-line l = Passed l.fn.bundle l.passed l.rest

abbrev pub decreases-loop-line : goal.decreases-loop-line
decreases-loop-line l = length l.rest
