use Rattle.consumer.proofs.Taken.{taken_of}
use Rattle.consumer.proofs.intake.Intake.told_by.Goals as goal

pub returns : goal.returns
returns g c = taken_of c.args.first.now c.in-Some.parts.script.now c.in-Some.parts.trace.now c.in_ok-input.input c.in-Some.ensures c.in_ok-input.ensures.judged c.in_ok-input.ensures.trace
