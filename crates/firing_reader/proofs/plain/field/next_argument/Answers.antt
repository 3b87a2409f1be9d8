use Rattle.std.proofs.Common.{◌+◌, ◌∷◌, [], rules, w64}
use Rattle.std.proofs.lemmas.Int.{to_z-of_z}
use Rattle.firing_reader.proofs.PlainFields.{one_joins, one_signed}
use Rattle.firing_reader.proofs.PlainRows.{passes_one}
use Rattle.firing_reader.proofs.plain.field.next_argument.Goals as goal

pub returns-in-Some : goal.returns-in-Some
returns-in-Some c =
    let (lt, is) = c.in-Some.ensures in
    let d = c.in-Some.digit in
    let field = (48 + d) ∷ [] in
    (field, passes_one c.args.bytes.now field c.in-Some.rest.now (record { split = is; plain = one_joins d lt }), rw (to_z-of_z w64 c.from.result (search rules), c.from.ensures) (one_signed d lt))

pub returns : goal.returns
returns c =
    let (field, fronts, read) = c.in_ok-value.ensures in
    (field, passes_one c.args.bytes.now field c.in_ok-after.after.now (rw c.in_ok-after.ensures at fronts), search (rules, read))
