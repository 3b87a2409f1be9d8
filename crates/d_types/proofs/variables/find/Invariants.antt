use Rattle.std.proofs.Common.{◌≡◌, drop}
use Rattle.std.specs.List.{position_from}
use Rattle.d_types.specs.Steps.Variables.{names_row}
use Rattle.d_types.specs.Steps.Variables.{rows_of_entries}
use Rattle.d_types.proofs.variables.find.Given as goal

abbrev pub invariant-loop-slot : goal.invariant-loop-slot
invariant-loop-slot l = position_from (names_row l.space l.name) l.slot (rows_of_entries (drop l.slot l.table)) ≡ position_from (names_row l.space l.name) 0 (rows_of_entries l.table)
