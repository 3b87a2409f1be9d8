-- The numbers that words stand for, and the operators on numbers.
-- Source: Dynamic Tracing Guide, "Arithmetic Operators" and "Bitwise Operators".
use Rattle.std.specs.Prelude.{◌≡◌, ℕ, ◌-◌, ◌^◌, ℤ, pos, neg_ℤ, ◌+ℤ◌, ◌-ℤ◌, ◌*ℤ◌, ◌≤ℤ◌, ◌<ℤ◌, Bool}
use Rattle.std.specs.Prelude.{◌&&◌, nat_le, if◌then◌else◌, bit_and, bit_or, bit_xor, int_div}
use Rattle.std.specs.Prelude.{int_rem, unsigned_abs}
use Rattle.std.specs.Int.{int_rem_euclid}
use Rattle.d_values.specs.Vocabulary.{int_shr, cast_signed, w64, IntType, ArithmeticOperator}
use Rattle.d_values.specs.Vocabulary.{ShiftOperator}
use Rattle.d_values.specs.declared.operators.ArithmeticOperator.TheVariants.{Multiply, Divide}
use Rattle.d_values.specs.declared.operators.ArithmeticOperator.TheVariants.{Remainder, Add}
use Rattle.d_values.specs.declared.operators.ArithmeticOperator.TheVariants.{Subtract, BitAnd}
use Rattle.d_values.specs.declared.operators.ArithmeticOperator.TheVariants.{BitXor, BitOr}
use Rattle.d_values.specs.declared.operators.ShiftOperator.TheVariants.{Left, Right}

-- the number that a word is, read with a sign or without
abbrev pub read : Bool → ℕ → ℤ
read signed word = if signed then cast_signed w64 word else pos word

-- the number that a word of the type stands for
abbrev pub number_of : IntType → ℕ → ℤ
number_of t word = read t.signed word

-- ---- the numbers of a type

-- z modulo m, from 0 up
abbrev pub modulo : ℤ → ℕ → ℕ
modulo z m = unsigned_abs (int_rem_euclid z (pos m))

-- the number of the type whose lowest bits are these
abbrev pub number_of_bits : IntType → ℕ → ℤ
number_of_bits t low =
    if t.signed && nat_le (2 ^ (t.width - 1)) low then pos low -ℤ pos (2 ^ t.width) else pos low

-- the one number of the type that equals z modulo 2 ^ width
abbrev pub wrap : IntType → ℤ → ℤ
wrap t z = number_of_bits t (modulo z (2 ^ t.width))

abbrev pub least_of : IntType → ℤ
least_of t = if t.signed then neg_ℤ (pos (2 ^ (t.width - 1))) else pos 0

abbrev pub bound_of : IntType → ℤ
bound_of t = if t.signed then pos (2 ^ (t.width - 1)) else pos (2 ^ t.width)

-- n is a number of the type
pub record IsNumber (t : IntType) (n : ℤ) : Type 0 where
  pub least : least_of t ≤ℤ n
  pub below : n <ℤ bound_of t

-- n is a number of the type, and equals z modulo 2 ^ width
pub record IsWrapped (t : IntType) (z n : ℤ) : Type 0 where
  pub number : IsNumber t n
  pub same : modulo n (2 ^ t.width) ≡ modulo z (2 ^ t.width)

-- ---- the operators on numbers

-- the bits of a number: those of the number modulo 2 ^ 64
abbrev pub bits_of : ℤ → ℕ
bits_of z = modulo z (2 ^ 64)

-- division cuts toward zero, and what it leaves has the sign of what was divided
abbrev pub whole_of : ArithmeticOperator → ℤ → ℤ → ℤ
whole_of Multiply x y = x *ℤ y
whole_of Divide x y = int_div x y
whole_of Remainder x y = int_rem x y
whole_of Add x y = x +ℤ y
whole_of Subtract x y = x -ℤ y
whole_of BitAnd x y = pos (bit_and (bits_of x) (bits_of y))
whole_of BitXor x y = pos (bit_xor (bits_of x) (bits_of y))
whole_of BitOr x y = pos (bit_or (bits_of x) (bits_of y))

-- times a power of two, or divided by it and rounded down
abbrev pub whole_shift_of : ShiftOperator → ℤ → ℕ → ℤ
whole_shift_of Left x count = x *ℤ pos (2 ^ count)
whole_shift_of Right x count = int_shr x count
