use Rattle.std.proofs.Common.{arith}
use Rattle.consumer.specs.Steps.Beginnings.{IsDividedAt, IsUndivided}
use Rattle.consumer.proofs.Taken.{told_divided, told_long}
use Rattle.consumer.proofs.intake.parts_of.Goals as goal

pub returns-in-Some : goal.returns-in-Some
returns-in-Some c =
    let divided : IsDividedAt c.args.first.now c.first_lines-passed.result.0 c.in-Some.trace.now = rw c.in-Some.is at c.first_lines-passed.ensures in
    told_divided c.args.first.now c.first_lines-passed.result.0 c.in-Some.trace.now divided

pub returns-in-None : goal.returns-in-None
returns-in-None c =
    let undivided : IsUndivided c.args.first.now c.first_lines-passed.result.0 = rw c.in-None.is at c.first_lines-passed.ensures in
    told_long c.args.first.now c.first_lines-passed.result.0 undivided (omega arith)
