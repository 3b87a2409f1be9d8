-- What is known after an instruction.
-- Source: Cantrill, Shapiro and Leventhal, "Dynamic Instrumentation of Production Systems" (USENIX
-- 2004), on DIF.
use Rattle.std.specs.Prelude.{List, [], ◌∷◌, ◌++◌, if◌then◌else◌, Option, Some, None, true}
use Rattle.dif_validate.specs.Vocabulary.{Instr, Kind, Reg, Shape, at, put}
use Rattle.dif_validate.specs.Vocabulary.{Change, Puts, Copies, ComparesTwo, Pushes, Empties}
use Rattle.dif_validate.specs.Vocabulary.{StoresVariable, NoChange}
use Rattle.dif_validate.specs.Rows.{row_of}
use Rattle.dif_validate.specs.Shapes.{has_room}

abbrev pub with_register : Shape → Reg → Option Kind → Shape
with_register s r kind =
    record { registers = put s.registers r kind; compared = s.compared; tuple = s.tuple }

abbrev pub shape_compared : Shape → Shape
shape_compared s =
    record { registers = s.registers; compared = true; tuple = s.tuple }

abbrev pub shape_with_tuple : Shape → Option (List Kind) → Shape
shape_with_tuple s tuple =
    record { registers = s.registers; compared = s.compared; tuple = tuple }

-- one more at the end, up to 8
abbrev pub tuple_with : Option (List Kind) → Kind → Option (List Kind)
tuple_with None kind = None
tuple_with (Some tuple) kind =
    if has_room tuple then Some (tuple ++ kind ∷ []) else None

-- what is known after a change
abbrev pub shape_after : Change → Shape → Shape
shape_after (Puts kind d) s = with_register s d (Some kind)
shape_after (Copies a d) s = with_register s d (at s.registers a)
shape_after ComparesTwo s = shape_compared s
shape_after (Pushes kind) s = shape_with_tuple s (tuple_with s.tuple kind)
shape_after Empties s = shape_with_tuple s (Some [])
shape_after StoresVariable s = s
shape_after NoChange s = s

abbrev pub leaves : Instr → Shape → Shape
leaves i s = shape_after (row_of i).change s
