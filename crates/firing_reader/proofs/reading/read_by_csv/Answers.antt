use Rattle.std.proofs.Common.{◌+◌, arith, inr, length-append, ◌∷◌, []}
use Rattle.std.proofs.lemmas.Result.{err_from_is_err_and}
use Rattle.csv.specs.Records.{fields_of}
use Rattle.firing_reader.specs.{Plain.rows_after, Steps.Left.records_left}
use Rattle.firings.specs.Firings.{last_number}
use Rattle.firing_reader.proofs.Rows.{goes_on, stops, ends, is_full, last_push}
use Rattle.firing_reader.proofs.reading.read_by_csv.Goals as goal

pub returns-then-not-branch : goal.returns-then-not-branch
returns-then-not-branch c =
    let taken = rw c.if-not-branch.true at c.in_ok-read_record.ensures.taken in
    ends c.loop-row.firings (c.loop-row.row + 1) (last_number c.loop-row.firings) (records_left c.loop-row.records) (rows_after c.args.firings.now (records_left c.args.records.now)) taken c.loop-row.invariant.read

pub returns-in_err-firing : goal.returns-in_err-firing
returns-in_err-firing c =
    let taken = rw c.if-not-branch.false at c.in_ok-read_record.ensures.taken in
    let p = err_from_is_err_and c.from_residual-in_err-firing.result c.from_residual-in_err-firing.ensures.1 in
    rw (p.1, p.2) (stops c.loop-row.firings (c.loop-row.row + 1) (last_number c.loop-row.firings) (fields_of c.read_record.new.fields) (records_left c.loop-row.records) (records_left c.read_record.new.records) c.in_err-firing.field-0.0 (rows_after c.args.firings.now (records_left c.args.records.now)) taken.1 (rw c.last_number.ensures at c.in_err-firing.ensures) c.loop-row.invariant.read)

pub loop-row-preserved : goal.loop-row-preserved
loop-row-preserved c =
    let taken = rw c.if-not-branch.false at c.in_ok-read_record.ensures.taken in
    let more = length-append c.loop-row.firings (c.in_ok-firing.firing ∷ []) in
    record {
      between = taken.0;
      read = rw (c.in-Some.ensures, last_push c.loop-row.firings c.in_ok-firing.firing) (goes_on c.loop-row.firings (c.loop-row.row + 1) (last_number c.loop-row.firings) (fields_of c.read_record.new.fields) (records_left c.loop-row.records) (records_left c.read_record.new.records) c.in_ok-firing.firing (rows_after c.args.firings.now (records_left c.args.records.now)) taken.1 (rw c.last_number.ensures at c.in_ok-firing.ensures) c.loop-row.invariant.read);
      few = rw c.in-Some.ensures (omega (arith, more, c.loop-row.invariant.few));
    }

pub returns-then-branch : goal.returns-then-branch
returns-then-branch c =
    let taken = rw c.if-branch.true at c.in_ok-read_record-2.ensures.taken in
    inr (is_full c.loop-row.firings (c.loop-row.row + 1) (last_number c.loop-row.firings) (fields_of c.read_record-2.new.fields) (records_left c.loop-row.records) (records_left c.read_record-2.new.records) (rows_after c.args.firings.now (records_left c.args.records.now)) taken.1 (omega arith) c.loop-row.invariant.read)

pub returns : goal.returns
returns c =
    let taken = rw c.if-branch.false at c.in_ok-read_record-2.ensures.taken in
    ends c.loop-row.firings (c.loop-row.row + 1) (last_number c.loop-row.firings) (records_left c.loop-row.records) (rows_after c.args.firings.now (records_left c.args.records.now)) taken c.loop-row.invariant.read
