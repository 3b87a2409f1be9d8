use Rattle.std.proofs.Common.{◌≡◌, ◌++◌, map, take}
use Rattle.firing_reader.specs.Steps.Stored.{moved_row}
use Rattle.firing_reader.proofs.builder.add_rows.Given as goal

abbrev pub invariant-loop-row : goal.invariant-loop-row
invariant-loop-row l =
    l.rows.items ≡ l.fn.rows.items ++ map (moved_row l.owners l.probes l.shift) (take l.row-index l.others)
