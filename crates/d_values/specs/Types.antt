-- The types of integers.
-- Source: Dynamic Tracing Guide, "Data Types and Sizes".
use Rattle.std.specs.Prelude.{ℕ, ◌+◌, ◌*◌, true, false, nat_lt, if◌then◌else◌}
use Rattle.std.proofs.Common.{refl}
use Rattle.d_values.specs.declared.int_type.IntType.{IntType}

abbrev pub INT8 : IntType
INT8 = record { width = 8; signed = true; known = refl }

abbrev pub INT16 : IntType
INT16 = record { width = 16; signed = true; known = refl }

abbrev pub INT32 : IntType
INT32 = record { width = 32; signed = true; known = refl }

abbrev pub INT64 : IntType
INT64 = record { width = 64; signed = true; known = refl }

abbrev pub UINT8 : IntType
UINT8 = record { width = 8; signed = false; known = refl }

abbrev pub UINT16 : IntType
UINT16 = record { width = 16; signed = false; known = refl }

abbrev pub UINT32 : IntType
UINT32 = record { width = 32; signed = false; known = refl }

abbrev pub UINT64 : IntType
UINT64 = record { width = 64; signed = false; known = refl }

-- what an operand of the type is brought to: int below 32 bits, else the type itself
abbrev pub promoted_of : IntType → IntType
promoted_of t = if nat_lt t.width 32 then INT32 else t

-- the index of a promoted type among int, unsigned int, long, unsigned long
abbrev pub type_rank : IntType → ℕ
type_rank t = 2 * t.width + (if t.signed then 0 else 1)

abbrev pub higher : IntType → IntType → IntType
higher t u = if nat_lt (type_rank t) (type_rank u) then u else t

-- the type that two operands are brought to: of their promoted types the one of higher rank
abbrev pub common_of : IntType → IntType → IntType
common_of t u = higher (promoted_of t) (promoted_of u)
