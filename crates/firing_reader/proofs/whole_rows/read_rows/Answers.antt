use Rattle.std.proofs.Common.{◌+◌, ◌∷◌, ◌∙◌, take, drop, ap, inl, refl}
use Rattle.std.proofs.lemmas.List.{take_rest}
use Rattle.std.proofs.lemmas.Result.{err_from_is_err_and}
use Rattle.firing_reader.specs.Pieces.{GoesOn}
use Rattle.firing_reader.specs.Steps.RowEnds.{RowsEnd}
use Rattle.firing_reader.proofs.BlockSteps.{fault_of_rows, feed_taken, rows_read}
use Rattle.firing_reader.proofs.whole_rows.read_rows.Goals as goal

pub read_rest-requires : goal.read_rest-requires
read_rest-requires c =
    let r = drop (c.read_plain-passed.result + 1) c.args.left.now.items in
    let e = c.end_of_rows-end.result in
    (10, take e r, ap (take (e + 1)) (c.deref-then-end-gt0.ensures.value ∙ c.keep_from.ensures) ∙ feed_taken r e, inl refl)

pub returns-in_err-read_rest-clause-read : goal.returns-in_err-read_rest-clause-read
returns-in_err-read_rest-clause-read c =
    let x = c.args.left.now.items in
    let r = drop (c.read_plain-passed.result + 1) x in
    let b = c.read_plain-passed.new.firings in
    let goes : GoesOn c.args.firings.now x b (10 ∷ r) = rw c.deref.ensures.value at c.read_plain-passed.ensures.read in
    let ends : RowsEnd (take c.end_of_rows-end.result r) = rw (take_rest c.deref-2.result.now 1, c.deref-2.ensures.value, c.keep_from.ensures) at c.end_of_rows-end.ensures.ends in
    let p = err_from_is_err_and c.from_residual.result c.from_residual.ensures.1 in
    rw (p.1, p.2) (fault_of_rows c.args.firings.now x b r c.in_err-read_rest.field-0.0 c.end_of_rows-end.result goes ends (rw (c.deref-then-end-gt0.ensures.value, c.keep_from.ensures) at c.in_err-read_rest.ensures))

pub returns-in_ok-read_rest-clause-read : goal.returns-in_ok-read_rest-clause-read
returns-in_ok-read_rest-clause-read c =
    let x = c.args.left.now.items in
    let r = drop (c.read_plain-passed.result + 1) x in
    let b = c.read_plain-passed.new.firings in
    let goes : GoesOn c.args.firings.now x b (10 ∷ r) = rw c.deref.ensures.value at c.read_plain-passed.ensures.read in
    let ends : RowsEnd (take c.end_of_rows-end.result r) = rw (take_rest c.deref-2.result.now 1, c.deref-2.ensures.value, c.keep_from.ensures) at c.end_of_rows-end.ensures.ends in
    rw (c.keep_from-then-end-gt0.ensures, c.keep_from.ensures) (rows_read c.args.firings.now x b r c.read_rest.new.firings c.end_of_rows-end.result goes ends (rw (c.deref-then-end-gt0.ensures.value, c.keep_from.ensures) at c.in_ok-read_rest.ensures))
