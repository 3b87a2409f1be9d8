use Rattle.std.proofs.Common.{◌≡◌, ◌+◌, ◌∷◌, [], Some, pos, refl, arith, rules, w32}
use Rattle.std.proofs.lemmas.Int.{to_z-of_z}
use Rattle.firing_reader.specs.Column.{Whole, value_of}
use Rattle.firing_reader.proofs.PlainFields.{one_joins, one_whole}
use Rattle.firing_reader.proofs.plain.field.int.Goals as goal

pub returns : goal.returns
returns c =
    let (lt, is) = c.in-Some.ensures in
    let d = c.in-Some.digit in
    let field = (48 + d) ∷ [] in
    let read : value_of (Whole 0 0x7FFF_FFFF) field ≡ Some (pos d) = rw (one_whole d 0x7FFF_FFFF lt (omega arith)) refl in
    (field, record { split = is; plain = one_joins d lt }, rw (c.if-least-eq0.true, to_z-of_z w32 c.from.result (search rules), c.from.ensures) read)
