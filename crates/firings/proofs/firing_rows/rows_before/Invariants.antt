use Rattle.std.proofs.Common.{◌≡◌, length, map, take}
use Rattle.firings.specs.Stored.{row_before}
use Rattle.firings.proofs.firing_rows.rows_before.Given as goal

abbrev pub invariant-loop-at : goal.invariant-loop-at
invariant-loop-at l = record {
  size : length l.found ≡ 16;
  rows : take l.at l.found ≡ map (row_before l.rows) (take l.at l.fn.indices);
}
