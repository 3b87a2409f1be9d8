use Rattle.std.proofs.Common.{◌∙◌, [], ap, append-nil}
use Rattle.std.proofs.lemmas.Result.{err_from_is_err_and, on_ok_weaker}
use Rattle.consumer.specs.Vocabulary.{trace_of}
use Rattle.consumer.proofs.Refusing.{out_of_memory}
use Rattle.consumer.proofs.consumer.Consumer.replay_with.Goals as goal

pub returns-in_err-input : goal.returns-in_err-input
returns-in_err-input g c =
    let p = err_from_is_err_and c.from_residual.result c.from_residual.ensures.1 in
    rw (p.1, p.2) (out_of_memory g.L.Layout.shows c.args.script.now c.args.trace.now c.args.plan.now)

pub returns : goal.returns
returns g c =
    let trace = c.args.trace.now in
    c.answer.ensures c.args.script.now trace c.in_ok-input.ensures.judged (on_ok_weaker c.in_ok-input.input.script (λ all. all [] ∙ ap trace_of (append-nil trace)) c.in_ok-input.ensures.trace)
