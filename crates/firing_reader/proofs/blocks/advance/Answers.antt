use Rattle.std.proofs.Common.{sym}
use Rattle.std.proofs.lemmas.Result.{err_from_is_err_and}
use Rattle.firing_reader.proofs.BlockSteps.{begins_fault, begins_rows, begins_then}
use Rattle.firing_reader.proofs.PlainRows.{goes_reads, goes_rows}
use Rattle.firing_reader.proofs.blocks.advance.Goals as goal

pub returns-in_ok-read_rows_by-in-Header : goal.returns-in_ok-read_rows_by-in-Header
returns-in_ok-read_rows_by-in-Header g c =
    let begins = rw c.deref.ensures.value at (rw c.in-Some.is at c.in_ok-end-in-Header.ensures.found).0 in
    let none = (rw c.in-Header.is at c.requires).1 in
    let done = c.in_ok-read_rows_by-in-Header.ensures in
    let read = rw (none, c.keep_from.ensures) at done.read in
    record { kept = (done.feed, (done.waiting, begins_rows _ _ _ _ _ begins read)); read = rw (c.in-Header.is, none) (begins_then _ _ _ _ _ begins read); fault = tt }

pub returns-in_err-read_rows_by-in-Header-clause-fault : goal.returns-in_err-read_rows_by-in-Header-clause-fault
returns-in_err-read_rows_by-in-Header-clause-fault g c =
    let begins = rw c.deref.ensures.value at (rw c.in-Some.is at c.in_ok-end-in-Header.ensures.found).0 in
    let none = (rw c.in-Header.is at c.requires).1 in
    let p = err_from_is_err_and c.from_residual-in_err-read_rows_by-in-Header.result c.from_residual-in_err-read_rows_by-in-Header.ensures.1 in
    rw (p.1, p.2, c.in-Header.is, none) (begins_fault _ _ _ c.in_err-read_rows_by-in-Header.field-0.0 begins (rw (none, c.keep_from.ensures) at c.in_err-read_rows_by-in-Header.ensures.read))

pub returns-in_ok-read_rows_by-in-Rows : goal.returns-in_ok-read_rows_by-in-Rows
returns-in_ok-read_rows_by-in-Rows g c =
    let kept = rw c.in-Rows.is at c.requires in
    let done = c.in_ok-read_rows_by-in-Rows.ensures in
    record {
      kept = rw c.in-Rows.is (done.feed, (done.waiting, goes_rows _ _ _ _ done.read kept.1.1));
      read = rw c.in-Rows.is (λ tail. sym (goes_reads _ _ _ _ done.read tail));
      fault = tt;
    }
