use Rattle.std.proofs.Common.{◌∙◌, Some, ap, arith}
use Rattle.std.specs.Prelude.{Err}
use Rattle.std.proofs.lemmas.Result.{err_from_is_err_and}
use Rattle.consumer.specs.Consuming.{WritesAnswer}
use Rattle.consumer.proofs.Taken.{begun_apart}
use Rattle.consumer.proofs.Unread.{consumed, memory_shown, none_shown, read_fails, spent}
use Rattle.consumer.proofs.consumer.Consumer.consume_trace.Goals as goal

pub returns-in_err-begun : goal.returns-in_err-begun
returns-in_err-begun g c =
    let p = err_from_is_err_and c.from_residual.result c.from_residual.ensures.1 in
    let out = p.1 ∙ ap Err p.2 in
    spent _ _ _ _ _ c.requires.0 (omega arith) out (λ trace. memory_shown c.args.script.now trace _ _ c.from_residual.result out)

pub returns-in_err-input : goal.returns-in_err-input
returns-in_err-input g c = read_fails _ _ _ c.from_residual-in_err-input.result _ c.in_err-input.field-0.0 c.from_residual-in_err-input.ensures.1 c.in_err-input.ensures.reading
    (λ other trace. none_shown c.args.script.now trace _ _ c.from_residual-in_err-input.result c.in_err-input.field-0.0 c.from_residual-in_err-input.ensures.1 other)

pub returns : goal.returns
returns g c =
    let all = c.in_ok-input.ensures.bytes in
    let input = all.holds (Some c.args.script.now) (begun_apart c.args.script.now c.in_ok-begun.begun c.in_ok-begun.ensures.judged c.in_ok-begun.ensures.trace) in
    let shown : WritesAnswer g.L.Layout.shows input.script input.trace c.args.plan.now (g.S.Sink.seen c.args.sink.now) (g.S.Sink.seen c.write_out.new.sink) c.write_out.result = record {
      answer = c.answer.result;
      is = c.answer.ensures input.script input.trace input.is_judged input.read;
      out = c.write_out.ensures.out;
    } in
    consumed _ _ _ _ c.write_out.result _ _ c.in_ok-input.ensures.reading c.write_out.ensures.read c.write_out.ensures.untouched (record {
      input = all.input;
      read = all.read;
      holds = rw (input.splits.0, input.splits.1) at shown;
    })
