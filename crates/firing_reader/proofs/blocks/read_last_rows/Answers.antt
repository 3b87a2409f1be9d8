use Rattle.std.proofs.lemmas.Result.{err_from_is_err_and}
use Rattle.firing_reader.proofs.PlainRows.{goes_all}
use Rattle.firing_reader.proofs.WaitingRows.{adds_goes, fault_last}
use Rattle.firing_reader.proofs.blocks.read_last_rows.Goals as goal

pub returns-in_err-add_waiting : goal.returns-in_err-add_waiting
returns-in_err-add_waiting c =
    let p = err_from_is_err_and c.from_residual.result c.from_residual.ensures.1 in
    let old = c.args.progress.now in
    rw (p.1, p.2) (fault_last c.in_err-add_waiting.field-0.0 old.firings old.waiting.bytes.items old.left.items c.in_err-add_waiting.ensures)

pub returns : goal.returns
returns c =
    let goes = adds_goes _ _ _ _ c.args.progress.now.left.items c.in_ok-add_waiting.ensures in
    rw (goes_all _ _ _ _ goes, ← c.in_ok-give_back.ensures.left, ← c.deref.ensures.value) c.read_rest.ensures
