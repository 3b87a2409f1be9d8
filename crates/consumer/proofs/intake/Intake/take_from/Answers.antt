use Rattle.std.proofs.Common.{Some, refl, rules}
use Rattle.std.proofs.lemmas.Result.{on_ok_weaker}
use Rattle.streams.proofs.Readings.{turn_with}
use Rattle.consumer.specs.declared.intake.Input.{Input}
use Rattle.consumer.proofs.Taken.{block_goes, on_ok_any, trace_goes}
use Rattle.consumer.proofs.intake.Intake.take_from.Goals as goal

pub returns-in_default : goal.returns-in_default
returns-in_default g c =
    let turn = c.in_ok-ended.ensures in
    turn_with turn (block_goes _ _ _ _ c.in_ok-told.told turn.bytes (search rules) c.replace-none.ensures.after turn.taken (rw c.deref.ensures.value at c.in_ok-told.ensures))

pub returns-then-is_ok : goal.returns-then-is_ok
returns-then-is_ok g c =
    let turn = c.take_rows.ensures in
    let t : Input = record { script = c.in-Some.input.script; trace = c.take_rows.new.trace } in
    turn_with turn (on_ok_weaker c.take_rows.result
    (λ rows. trace_goes c.in-Some.input t _ (Some t) c.args.block.now.items c.take_rows.new.block.items turn.bytes c.in-Some.is refl refl (on_ok_any _ _ rows)) turn.taken)
