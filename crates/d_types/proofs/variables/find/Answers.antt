use Rattle.std.proofs.Common.{◌≡◌, ◌+◌, drop, Some, true, false, refl, sym, ◌∙◌}
use Rattle.std.proofs.lemmas.List.{drop_all}
use Rattle.std.specs.List.{position_from}
use Rattle.d_types.specs.Steps.Variables.{names_row}
use Rattle.d_types.specs.Steps.Variables.{rows_of_entries, row_of_entry}
use Rattle.d_types.proofs.Tables.{front}
use Rattle.d_types.proofs.variables.find.Goals as goal

pub returns-then-is_named : goal.returns-then-is_named
returns-then-is_named c =
    let named : names_row c.args.space c.args.name.now (row_of_entry c.index-table-slot.result) ≡ true = sym c.is_named.ensures ∙ c.if-is_named.true in
    let here : position_from (names_row c.args.space c.args.name.now) c.loop-slot.slot (rows_of_entries (drop c.loop-slot.slot c.args.table.now)) ≡ Some c.loop-slot.slot =
    rw (front c.args.table.now c.loop-slot.slot c.index-table-slot.result c.loop-slot-test.true c.index-table-slot.is, named) refl in
    sym here ∙ c.loop-slot.invariant

pub loop-slot-preserved : goal.loop-slot-preserved
loop-slot-preserved c =
    let named : names_row c.args.space c.args.name.now (row_of_entry c.index-table-slot.result) ≡ false = sym c.is_named.ensures ∙ c.if-is_named.false in
    let here : position_from (names_row c.args.space c.args.name.now) c.loop-slot.slot (rows_of_entries (drop c.loop-slot.slot c.args.table.now)) ≡ position_from (names_row c.args.space c.args.name.now) (c.loop-slot.slot + 1) (rows_of_entries (drop (c.loop-slot.slot + 1) c.args.table.now)) =
    rw (front c.args.table.now c.loop-slot.slot c.index-table-slot.result c.loop-slot-test.true c.index-table-slot.is, named) refl in
    sym here ∙ c.loop-slot.invariant

pub returns : goal.returns
returns c = rw (drop_all c.loop-slot.slot c.args.table.now c.loop-slot-test.false) at c.loop-slot.invariant
