use Rattle.consumer.proofs.Taken.{whole_known, whole_told}
use Rattle.consumer.proofs.intake.Intake.whole.Goals as goal

pub returns-in-Some : goal.returns-in-Some
returns-in-Some g c = whole_known c.args.first.now c.in-Some.input c.args.taken c.in-Some.is

pub returns-in-None : goal.returns-in-None
returns-in-None g c =
    whole_told c.begun.result c.args.first.now c.divide-parts.result.script.now c.divide-parts.result.trace.now c.args.taken c.in-None.is c.divide-parts.ensures c.begun.ensures.judged c.begun.ensures.trace
