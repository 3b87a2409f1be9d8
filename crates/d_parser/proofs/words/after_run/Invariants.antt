use Rattle.std.proofs.Common.{◌≡◌, ◌≤◌, length}
use Rattle.d_parser.specs.Steps.Words as steps
use Rattle.d_parser.proofs.words.after_run.Given as goal

abbrev pub invariant-loop-rest : goal.invariant-loop-rest
invariant-loop-rest l = record { same : steps.after_run l.rest ≡ steps.after_run l.fn.tokens; within : length l.rest ≤ length l.fn.tokens }

abbrev pub decreases-loop-rest : goal.decreases-loop-rest
decreases-loop-rest l = length l.rest
