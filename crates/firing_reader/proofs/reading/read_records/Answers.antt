use Rattle.std.proofs.Common.{sym, ◌∙◌, inr}
use Rattle.std.proofs.lemmas.Result.{err_from_is_err_and}
use Rattle.firing_reader.proofs.Rows.{header_fault, header_other, header_read}
use Rattle.firing_reader.proofs.reading.read_records.Goals as goal

pub returns-then-not-is_header-clause-faulty : goal.returns-then-not-is_header-clause-faulty
returns-then-not-is_header-clause-faulty c =
    let taken = sym c.records_of-records.ensures.all ∙ (rw c.if-not-branch.false at c.in_ok-read_record.ensures.taken).1 in
    inr (header_other _ _ _ taken (sym c.is_header.ensures ∙ c.if-not-is_header.true))

pub returns-in_err-read_by_csv-clause-faulty : goal.returns-in_err-read_by_csv-clause-faulty
returns-in_err-read_by_csv-clause-faulty c =
    let taken = sym c.records_of-records.ensures.all ∙ (rw c.if-not-branch.false at c.in_ok-read_record.ensures.taken).1 in
    let p = err_from_is_err_and c.from_residual-in_err-read_by_csv.result c.from_residual-in_err-read_by_csv.ensures.1 in
    rw (p.1, p.2) (header_fault _ _ _ c.args.firings.now c.in_err-read_by_csv.field-0.0 taken (sym c.is_header.ensures ∙ c.if-not-is_header.false) c.requires.empty c.in_err-read_by_csv.ensures)

pub returns-clause-read : goal.returns-clause-read
returns-clause-read c =
    let taken = sym c.records_of-records.ensures.all ∙ (rw c.if-not-branch.false at c.in_ok-read_record.ensures.taken).1 in
    header_read _ _ _ c.args.firings.now _ taken (sym c.is_header.ensures ∙ c.if-not-is_header.false) c.requires.empty c.in_ok-read_by_csv.ensures
