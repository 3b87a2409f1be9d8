use Rattle.std.proofs.Common.{◌≡◌, ◌+◌, length}
use Rattle.firing_reader.specs.Steps.Left.{IsBetween, records_left}
use Rattle.firing_reader.specs.Plain.{rows_after, with_front}
use Rattle.firings.specs.Firings.{last_number}
use Rattle.firing_reader.specs.Trace.{rows_of}
use Rattle.firing_reader.proofs.reading.read_by_csv.Given as goal

abbrev pub invariant-loop-row : goal.invariant-loop-row
invariant-loop-row l = record {
  between : IsBetween l.records;
  read : with_front l.firings (rows_of (l.row + 1) (last_number l.firings) (records_left l.records)) ≡ rows_after l.fn.firings (records_left l.fn.records);
  few : length l.firings ≡ l.row;
}
