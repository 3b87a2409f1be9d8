use Rattle.std.proofs.Common.{◌≡◌, None}
use Rattle.d_types.specs.Variables.{find}
use Rattle.d_types.specs.Steps.Variables.{rows_of_entries}
use Rattle.d_types.proofs.Binds.{passed_on}
use Rattle.d_types.proofs.NewVariables.{slot_refused, slot_new, check_passed, check_failed, refused}
use Rattle.d_types.proofs.targets.slot_for.Goals as goal

pub returns-in_err-check_keys-in-None : goal.returns-in_err-check_keys-in-None
returns-in_err-check_keys-in-None c =
    let o : find c.args.variable.space c.args.variable.name.now (rows_of_entries c.args.table.now.items) ≡ None = cc in
    let k = check_failed _ _ _ (rw c.most_keys.ensures at c.in_err-check_keys-in-None.ensures) in
    refused _ c.from_residual.result _ _ _ c.from_residual.ensures.1 k.1
    (slot_refused c.args.variable.space c.args.variable.line c.args.variable.name.now (rows_of_entries c.args.table.now.items) c.args.holds c.args.keys.now _ o k.0)

pub returns-in_ok-slot-in-None : goal.returns-in_ok-slot-in-None
returns-in_ok-slot-in-None c =
    let o : find c.args.variable.space c.args.variable.name.now (rows_of_entries c.args.table.now.items) ≡ None = cc in
    let h = check_passed _ _ _ (rw c.most_keys.ensures at c.in_ok-check_keys-in-None.ensures) in
    passed_on c.in_ok-slot-in-None.slot _ _ _ _ (slot_new c.args.variable.space c.args.variable.line c.args.variable.name.now (rows_of_entries c.args.table.now.items) c.args.holds c.args.keys.now _ o h)
    c.in_ok-slot-in-None.ensures.slot c.in_ok-slot-in-None.ensures.added
