use Rattle.std.proofs.Common.{◌≡◌, ◌+◌, ◌-◌, length, take, drop, arith, refl}
use Rattle.std.proofs.lemmas.List.{take_rest}
use Rattle.std.proofs.lemmas.Result.{err_from_is_err_and}
use Rattle.firing_reader.specs.Plain.{BeginsAtEnd}
use Rattle.firing_reader.proofs.BlockSteps.{begins_csv, cut_at, fault_of_header}
use Rattle.firing_reader.proofs.reading.read_header.Goals as goal

pub returns-in_err-read_records-clause-fault : goal.returns-in_err-read_records-clause-fault
returns-in_err-read_records-clause-fault c =
    let x = c.args.bytes.now in
    let e = c.end_of_rows.result in
    let text = c.after_mark-text.result.now in
    let cut = cut_at x text _ e c.after_mark-text.ensures.text (omega arith) refl c.end_of_rows.ensures.count c.after_mark-text.ensures.few c.end_of_rows.ensures.ends in
    let p = err_from_is_err_and c.from_residual.result c.from_residual.ensures.1 in
    rw (p.1, p.2) (fault_of_header x (take e text) _ c.in_err-read_records.field-0.0 cut c.in_err-read_records.ensures.faulty)

pub returns-clause-found : goal.returns-clause-found
returns-clause-found c =
    let x = c.args.bytes.now in
    let e = c.end_of_rows.result in
    let text = c.after_mark-text.result.now in
    let end = (length x - length text) + e in
    let cut = cut_at x text end e c.after_mark-text.ensures.text (omega arith) refl c.end_of_rows.ensures.count c.after_mark-text.ensures.few c.end_of_rows.ensures.ends in
    let next : end - 1 + 1 ≡ end = omega arith in
    let ends : BeginsAtEnd (drop (end - 1) x) = rw (take_rest x (end - 1)) at (c.begins_at_end.ensures c.if-not-begins_at_end.false) in
    (rw next (begins_csv x (take e text) end c.read_records.new.firings cut (rw c.if-not-branch.false at c.in_ok-read_records.ensures.read)), ends)
