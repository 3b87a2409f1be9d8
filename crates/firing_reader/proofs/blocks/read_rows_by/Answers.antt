use Rattle.std.proofs.Common.{◌≤◌, length, arith}
use Rattle.std.proofs.lemmas.Result.{err_from_is_err_and}
use Rattle.firing_reader.proofs.BlockSteps.{read_after}
use Rattle.firing_reader.proofs.WaitingRows.{adds_goes, adds_leads, fault_waiting, keeps_left}
use Rattle.firing_reader.proofs.blocks.read_rows_by.Goals as goal

pub returns-in_err-read_pieces-clause-read : goal.returns-in_err-read_pieces-clause-read
returns-in_err-read_pieces-clause-read g c =
    let p = err_from_is_err_and c.from_residual.result c.from_residual.ensures.1 in
    rw (p.1, p.2) (fault_waiting c.in_err-read_pieces.field-0.0 c.args.progress.now.firings c.args.progress.now.waiting.bytes.items c.args.progress.now.left.items c.in_err-read_pieces.ensures.added)

pub returns-then-len-le1-clause-read : goal.returns-then-len-le1-clause-read
returns-then-len-le1-clause-read g c =
    let left = c.args.progress.now.left.items in
    let added = c.in_ok-read_pieces.ensures.added in
    let few : length c.read_pieces.new.waiting.bytes.items ≤ 1 = omega (arith, c.len.ensures, c.if-len-le1.true) in
    let waits = keeps_left c.read_pieces.new.waiting.bytes.items left few (adds_leads _ _ _ _ added) c.requires.0 in
    rw (c.keep_waiting.ensures.waiting, c.in_ok-keep_waiting.ensures.left, ← waits) (adds_goes _ _ _ _ left added)

pub read_rows-requires : goal.read_rows-requires
read_rows-requires g c = rw c.in_ok-give_back.ensures.left (adds_leads _ _ _ _ c.in_ok-read_pieces.ensures.added c.args.progress.now.left.items c.requires.0)

pub returns-clause-read : goal.returns-clause-read
returns-clause-read g c =
    let goes = adds_goes _ _ _ _ c.args.progress.now.left.items c.in_ok-read_pieces.ensures.added in
    rw c.in_ok-give_back.ensures.none (read_after c.read_rows.result _ _ _ _ _ _ goes (rw c.in_ok-give_back.ensures.left at c.read_rows.ensures.read))
