-- What is known before an instruction, whichever way led there.
-- Source: Cantrill, Shapiro and Leventhal, "Dynamic Instrumentation of Production Systems" (USENIX
-- 2004), on DIF.
use Rattle.std.specs.Prelude.{Bool, true, false, not, ◌&&◌, if◌then◌else◌, List, [], ◌∷◌, length}
use Rattle.std.specs.Prelude.{nat_lt, Option, Some, None}
use Rattle.dif_validate.specs.Vocabulary.{Kind, Number, Text, Reg, R0, R1, R2, R3, R4, R5, R6, R7}
use Rattle.dif_validate.specs.Vocabulary.{Shape, at}

-- ---- kinds

abbrev pub is_same : Kind → Kind → Bool
is_same Number Number = true
is_same Number Text = false
is_same Text Number = false
is_same Text Text = true

abbrev pub are_same : List Kind → List Kind → Bool
are_same [] [] = true
are_same (k ∷ ks) (j ∷ js) = is_same k j && are_same ks js
are_same _ _ = false

-- a register that is set holds another kind
abbrev pub is_other : Kind → Option Kind → Bool
is_other kind None = false
is_other kind (Some known) = not (is_same kind known)

abbrev pub is_unset : Option Kind → Bool
is_unset None = true
is_unset (Some kind) = false

-- another kind fits into the tuple
abbrev pub has_room : List Kind → Bool
has_room tuple = nat_lt (length tuple) 8

-- ---- shapes

-- at the start the first register is a number, all others are unset, nothing was compared, and the
-- tuple is empty
abbrev pub first_shape : Shape
first_shape = record {
  registers = Some Number ∷ None ∷ None ∷ None ∷ None ∷ None ∷ None ∷ None ∷ [];
  compared = false;
  tuple = Some [];
}

-- where ways meet, a kind is kept if they agree
abbrev pub common_kind : Option Kind → Option Kind → Option Kind
common_kind (Some k) (Some j) = if is_same k j then Some k else None
common_kind _ _ = None

abbrev pub common_kinds : List (Option Kind) → List (Option Kind) → List (Option Kind)
common_kinds these those =
    let common = λ (r : Reg). common_kind (at these r) (at those r) in
    common R0 ∷ common R1 ∷ common R2 ∷ common R3
    ∷ common R4 ∷ common R5 ∷ common R6 ∷ common R7 ∷ []

-- and so is the tuple
abbrev pub common_tuple : Option (List Kind) → Option (List Kind) → Option (List Kind)
common_tuple (Some t) (Some u) = if are_same t u then Some t else None
common_tuple _ _ = None

abbrev pub meet : Shape → Shape → Shape
meet s t = record {
  registers = common_kinds s.registers t.registers;
  compared = s.compared && t.compared;
  tuple = common_tuple s.tuple t.tuple;
}
