-- Integers as 64-bit words.
-- Source: Dynamic Tracing Guide, "Type Conversions".
use Rattle.std.specs.Prelude.{ℕ, ◌+◌, ◌-◌, ◌*◌, ◌/◌, ◌%◌, ◌^◌, Bool, true, false, ◌&&◌, ◌==◌}
use Rattle.std.specs.Prelude.{nat_le, if◌then◌else◌, Result, Ok, Err, bit_and, bit_or, bit_xor}
use Rattle.std.specs.Prelude.{ℤ, int_div, int_rem}
use Rattle.std.specs.Int.{cast_unsigned}
use Rattle.d_values.specs.Vocabulary.{int_shr, cast_signed, w64, nat_cmp, int_cmp, Ordering}
use Rattle.d_values.specs.Vocabulary.{IntType, ArithmeticOperator, ShiftOperator, OutOfZero}
use Rattle.d_values.specs.declared.operators.ArithmeticOperator.TheVariants.{Multiply, Divide}
use Rattle.d_values.specs.declared.operators.ArithmeticOperator.TheVariants.{Remainder, Add}
use Rattle.d_values.specs.declared.operators.ArithmeticOperator.TheVariants.{Subtract, BitAnd}
use Rattle.d_values.specs.declared.operators.ArithmeticOperator.TheVariants.{BitXor, BitOr}
use Rattle.d_values.specs.declared.operators.ShiftOperator.TheVariants.{Left, Right}

-- the lowest bits of a type as a word: ones above them if their sign is set
abbrev pub sign_extension : IntType → ℕ → ℕ
sign_extension t low =
    if t.signed && nat_le (2 ^ (t.width - 1)) low then low + (2 ^ 64 - 2 ^ t.width) else low

-- the word of the type whose lowest bits are those of this one
abbrev pub narrow : IntType → ℕ → ℕ
narrow t word = sign_extension t (word % 2 ^ t.width)

-- ---- 64-bit results, before they are narrowed

abbrev pub sum_of : ℕ → ℕ → ℕ
sum_of a b = (a + b) % 2 ^ 64

abbrev pub difference_of : ℕ → ℕ → ℕ
difference_of a b = (a + (2 ^ 64 - b)) % 2 ^ 64

-- an operator on signed numbers, as one on the words that stand for them
abbrev pub on_signed : (ℤ → ℤ → ℤ) → ℕ → ℕ → ℕ
on_signed f a b = cast_unsigned w64 (f (cast_signed w64 a) (cast_signed w64 b))

-- an operator on words, signed or not; division cuts toward zero
abbrev pub operate : ArithmeticOperator → Bool → ℕ → ℕ → ℕ
operate Multiply signed a b = (a * b) % 2 ^ 64
operate Divide signed a b = if signed then on_signed int_div a b else a / b
operate Remainder signed a b = if signed then on_signed int_rem a b else a % b
operate Add signed a b = sum_of a b
operate Subtract signed a b = difference_of a b
operate BitAnd signed a b = bit_and a b
operate BitXor signed a b = bit_xor a b
operate BitOr signed a b = bit_or a b

-- a shift of a word: to the right with copies of the sign, or with zeros
abbrev pub shift_result : ShiftOperator → Bool → ℕ → ℕ → ℕ
shift_result Left signed a count = (a * 2 ^ count) % 2 ^ 64
shift_result Right signed a count =
    if signed then cast_unsigned w64 (int_shr (cast_signed w64 a) count) else a / 2 ^ count

-- ---- the operators

-- the operator has no value at 0 on its right
abbrev pub divides : ArithmeticOperator → Bool
divides Divide = true
divides Remainder = true
divides op = false

abbrev pub binary_of : ArithmeticOperator → IntType → ℕ → ℕ → Result ℕ OutOfZero
binary_of op t a b =
    if divides op && (b == 0) then Err (record {}) else Ok (narrow t (operate op t.signed a b))

-- the count is taken modulo the width
abbrev pub shift_of : ShiftOperator → IntType → ℕ → ℕ → ℕ
shift_of op t a count = narrow t (shift_result op t.signed a (count % t.width))

-- the order of two words of the type
abbrev pub order_of : IntType → ℕ → ℕ → Ordering
order_of t a b = if t.signed then int_cmp (cast_signed w64 a) (cast_signed w64 b) else nat_cmp a b
