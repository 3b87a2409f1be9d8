use Rattle.std.proofs.lemmas.Result.{err_from_is_err_and}
use Rattle.d_types.specs.TypedScripts.{typed_script_of}
use Rattle.consumer.proofs.Refusing.{refused, trace_refused}
use Rattle.consumer.proofs.consumer.Consumer.replay_read.Goals as goal

pub returns-in_err-trace : goal.returns-in_err-trace
returns-in_err-trace g c = λ source bytes accepted gives.
    let m = typed_script_of c.args.script.now in
    let p = err_from_is_err_and c.from_residual.result c.from_residual.ensures.1 in
    rw (p.1, p.2) (refused g.L.Layout.shows source bytes c.args.plan.now _ (trace_refused source bytes c.args.plan.now m accepted c.in_err-trace.field-0.0 (rw c.in_err-trace.was at gives)))

pub returns : goal.returns
returns g c = λ source bytes accepted gives.
    c.replay_trace-replayed.ensures source bytes accepted (rw c.in_ok-trace.was at gives)
