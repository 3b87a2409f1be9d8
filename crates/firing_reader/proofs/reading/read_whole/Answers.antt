use Rattle.std.proofs.Common.{inr}
use Rattle.std.proofs.lemmas.List.{take_rest}
use Rattle.std.proofs.lemmas.Result.{err_from_is_err_and}
use Rattle.firing_reader.specs.Trace.{trace_of}
use Rattle.firing_reader.proofs.BlockSteps.{begins_all, last_fault}
use Rattle.firing_reader.proofs.Rows.{no_rows}
use Rattle.firing_reader.proofs.reading.read_whole.Goals as goal

pub returns-in_err-end : goal.returns-in_err-end
returns-in_err-end c =
    let p = err_from_is_err_and c.from_residual.result c.from_residual.ensures.1 in
    rw (p.1, p.2) (last_fault _ trace_of c.args.bytes.now c.in_err-end.ensures.fault)

pub returns-in-Some : goal.returns-in-Some
returns-in-Some c =
    let (begins, ends) = rw c.in-Some.is at c.in_ok-end.ensures.found in
    rw (begins_all _ _ _ begins ends) (rw (take_rest c.args.bytes.now c.in-Some.end) at c.read_rest.ensures)

pub returns-then-not-branch : goal.returns-then-not-branch
returns-then-not-branch c =
    let none = rw c.if-not-branch.true at c.in_ok-read_records.ensures.read in
    inr (no_rows _ none.0)
