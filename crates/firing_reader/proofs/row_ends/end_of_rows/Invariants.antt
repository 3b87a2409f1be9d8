use Rattle.std.proofs.Common.{◌≤◌, take}
use Rattle.firing_reader.specs.Steps.RowEnds.{RowsEnd}
use Rattle.firing_reader.proofs.RowEnds.{StandsAt}
use Rattle.firing_reader.proofs.row_ends.end_of_rows.Given as goal

abbrev pub invariant-loop-at : goal.invariant-loop-at
invariant-loop-at l = record {
  count : l.end ≤ l.at;
  ends : RowsEnd (take l.end l.bytes);
  stands : StandsAt (take l.at l.bytes) l.place;
}
