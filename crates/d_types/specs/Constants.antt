-- The types that constants have, and those that words name.
-- Source: Dynamic Tracing Guide, "Constants".
use Rattle.std.specs.Prelude.{ℕ, nat_le, if◌then◌else◌, take}
use Rattle.d_types.specs.Vocabulary.{Suffix, IntegerType, DeclaredType, IntType, DType, INT8, INT16}
use Rattle.d_types.specs.Vocabulary.{INT32, INT64, UINT8, UINT16, UINT32, UINT64, Constant}
use Rattle.d_types.specs.Vocabulary.{longest}
use Rattle.d_types.specs.Typed.{Typed}

-- the first of int, long and unsigned long that holds the value, or of those with the suffix
abbrev pub type_of_constant : ℕ → Suffix → IntType
type_of_constant v Suffix.Absent =
    if nat_le v 2147483647 then INT32 else if nat_le v 9223372036854775807 then INT64 else UINT64
type_of_constant v Suffix.Unsigned = if nat_le v 2147483647 then UINT32 else UINT64
type_of_constant v Suffix.Long = if nat_le v 9223372036854775807 then INT64 else UINT64
type_of_constant v Suffix.UnsignedLong = UINT64

-- the type that a word of the script names
abbrev pub int_type : IntegerType → IntType
int_type IntegerType.Int8 = INT8
int_type IntegerType.Int16 = INT16
int_type IntegerType.Int32 = INT32
int_type IntegerType.Int64 = INT64
int_type IntegerType.Uint8 = UINT8
int_type IntegerType.Uint16 = UINT16
int_type IntegerType.Uint32 = UINT32
int_type IntegerType.Uint64 = UINT64

abbrev pub declared_type : DeclaredType → DType
declared_type (DeclaredType.Integer t) = DType.Int (int_type t)
declared_type DeclaredType.Text = DType.Text

-- a text is cut to its first bytes
abbrev pub constant : Constant → Typed
constant (Constant.Number v suffix) = Typed.Constant (type_of_constant v suffix) v
constant (Constant.Text bytes) = Typed.Text (take longest bytes)
