use Rattle.std.proofs.Common.{None, refl}
use Rattle.consumer.proofs.Divisions.{division}
use Rattle.consumer.proofs.Unread.{consumed, none_shown, read_fails}
use Rattle.consumer.proofs.consumer.Consumer.consume.Goals as goal

pub returns-in_err-input : goal.returns-in_err-input
returns-in_err-input g c = read_fails _ _ _ c.from_residual.result _ c.in_err-input.field-0.0 c.from_residual.ensures.1 c.in_err-input.ensures.reading
    (λ other bundle. let parts = division bundle in
    (parts.0, parts.1, parts.2, none_shown parts.0 parts.1 _ _ c.from_residual.result c.in_err-input.field-0.0 c.from_residual.ensures.1 other))

pub returns : goal.returns
returns g c =
    let all = c.in_ok-input.ensures.bytes in
    let input = all.holds None (refl, refl) in
    consumed _ _ _ _ c.write_out.result _ _ c.in_ok-input.ensures.reading c.write_out.ensures.read c.write_out.ensures.untouched (record {
      input = all.input;
      read = all.read;
      holds = (
        input.script,
        input.trace,
        input.splits,
        record {
          answer = c.answer.result;
          is = c.answer.ensures input.script input.trace input.is_judged input.read;
          out = c.write_out.ensures.out;
        },
      );
    })
