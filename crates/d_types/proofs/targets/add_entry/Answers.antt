use Rattle.std.proofs.Common.{◌≡◌, refl}
use Rattle.d_types.specs.Typed.{typeds_of}
use Rattle.d_types.specs.Variables.{kinds_of_typed}
use Rattle.d_types.proofs.Tables.{rows_push}
use Rattle.d_types.proofs.targets.add_entry.Goals as goal

pub returns-clause-added : goal.returns-clause-added
returns-clause-added c =
    let w : c.in_ok-name.name ≡ c.args.variable.name.now = c.in_ok-name.ensures.ok in
    let k : c.in_ok-keys.keys.items ≡ kinds_of_typed (typeds_of c.args.keys.now) = c.in_ok-keys.ensures in
    rw (c.in_ok-push.ensures.items, rows_push, w, k) refl
