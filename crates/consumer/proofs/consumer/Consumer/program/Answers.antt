use Rattle.std.proofs.Common.{ap, subst}
use Rattle.consumer.specs.Program.{ran, without_run}
use Rattle.consumer.specs.Refusals.{IsReported}
use Rattle.consumer.proofs.consumer.Consumer.program.Goals as goal

-- a run leaves the errors' stream as it was, and the end writes to no other
pub returns-in-Ok : goal.returns-in-Ok
returns-in-Ok g c =
    let answer = c.run_request-answer.result in
    ran c.in-Ok.request answer c.in-Ok.ensures c.run_request-answer.ensures.run
    (subst (λ e. IsReported answer (g.E.Sink.seen e) (g.E.Sink.seen c.end-status.new.errors) c.end-status.result) c.run_request-answer.ensures.errors c.end-status.ensures)

pub returns-in-Err : goal.returns-in-Err
returns-in-Err g c = without_run c.in-Err.fault c.in-Err.ensures (ap g.F.Feed.seen c.explain-status.ensures.input) c.explain-status.ensures.ends
