use Rattle.std.proofs.Common.{subst}
use Rattle.firing_reader.specs.Gives.{Gives}
use Rattle.consumer.proofs.Refusing.{refused, script_refused}
use Rattle.consumer.proofs.consumer.Consumer.answer.Goals as goal

pub returns-in-Ok : goal.returns-in-Ok
returns-in-Ok g c = λ script trace judged read.
    c.replay_read-answer.ensures script trace (rw c.in-Ok.is at judged)
    (subst (Gives c.finish-read.result) (rw c.in-Ok.is at read) c.finish-read.ensures)

pub returns-in-Err : goal.returns-in-Err
returns-in-Err g c = λ script trace judged read.
    refused g.L.Layout.shows script trace c.args.plan.now c.in-Err.refusal (script_refused script trace c.args.plan.now c.in-Err.refusal (rw c.in-Err.is at judged))
