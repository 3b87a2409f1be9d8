-- 64-bit results are those on numbers, modulo 2 ^ 64.
use Rattle.std.specs.Prelude.{◌≡◌, ℕ, zero, suc, ◌+◌, ◌-◌, ◌*◌, ◌/◌, ◌%◌, ◌^◌, ◌<◌, ◌≤◌, ℤ}
use Rattle.std.specs.Prelude.{pos, negsuc, neg_ℤ, ◌-ℤ◌, ◌*ℤ◌, Bool, true, false, bit_and}
use Rattle.std.specs.Prelude.{bit_or, bit_xor, int_div, int_rem, unsigned_abs}
use Rattle.std.proofs.Common.{refl, sym, ap, ◌∙◌, arith, inl, inr, subst}
use Rattle.std.specs.Int.{int_wrap, int_shr, cast_signed, cast_unsigned, w64}
use Rattle.std.proofs.lemmas.Int.{ints, to_z_pos, of_z-to_z, wrapping_add-bits, wrapping_sub-bits}
use Rattle.std.proofs.lemmas.Int.{wrapping_mul-bits, int_wrap-mul_left, int_rem_euclid_is}
use Rattle.std.proofs.lemmas.Bool.{cases_lt}
use Rattle.std.proofs.lemmas.Nat.{and_le_l, or_lt, xor_lt}
use Rattle.std.proofs.Math.Nat.{div-le_self, mod-eq_of_lt, mod-le}
use Rattle.std.proofs.Math.Facts.{to_z-neg}
use Rattle.d_values.specs.Numbers.{bits_of, read, whole_of, whole_shift_of}
use Rattle.d_values.specs.Words.{operate, shift_result, sum_of, difference_of}
use Rattle.d_values.specs.Vocabulary.{ArithmeticOperator, ShiftOperator}
use Rattle.d_values.specs.declared.operators.ArithmeticOperator.TheVariants.{Multiply, Divide}
use Rattle.d_values.specs.declared.operators.ArithmeticOperator.TheVariants.{Remainder, Add}
use Rattle.d_values.specs.declared.operators.ArithmeticOperator.TheVariants.{Subtract, BitAnd}
use Rattle.d_values.specs.declared.operators.ArithmeticOperator.TheVariants.{BitXor, BitOr}
use Rattle.d_values.specs.declared.operators.ShiftOperator.TheVariants.{Left, Right}

pub cast_signed-high : (a : ℕ) → 2 ^ 63 ≤ a → a < 2 ^ 64 → cast_signed w64 a ≡ negsuc (2 ^ 64 - suc a)
cast_signed-high a high small =
    let back : 2 ^ 64 - suc (2 ^ 64 - suc a) ≡ a = omega arith in
    sym (ap (cast_signed w64) back) ∙ to_z-neg w64 (2 ^ 64 - suc a) (omega arith)

-- a word and its signed number are the same modulo 2 ^ 64
pub bits_of-cast_signed : (a : ℕ) → a < 2 ^ 64 → bits_of (cast_signed w64 a) ≡ a
bits_of-cast_signed a small = elim (cases_lt a (2 ^ 63)) [
  | inl low ↦ ap bits_of (to_z_pos w64 a low) ∙ (let e : bits_of (pos a) ≡ a = omega arith in e)
  | inr high ↦ ap bits_of (cast_signed-high a high small) ∙ (let e : bits_of (negsuc (2 ^ 64 - suc a)) ≡ a = omega arith in e)
]

bits_below : (z : ℤ) → bits_of z < 2 ^ 64
bits_below (pos n) = omega arith
bits_below (negsuc n) = omega arith

from_wrapped : (word : ℕ) (z : ℤ) → word < 2 ^ 64 → cast_signed w64 word ≡ int_wrap w64 z → bits_of z ≡ word
unfolding int_wrap
from_wrapped word z small e = sym (of_z-to_z w64 (bits_of z) (bits_below z)) ∙ ap (cast_unsigned w64) (sym e) ∙ of_z-to_z w64 word small

bits_of-small : (z : ℤ) → unsigned_abs z ≤ 2 ^ 63 → bits_of z ≡ cast_unsigned w64 z
bits_of-small (pos n) small = omega arith
bits_of-small (negsuc n) small = omega arith

pub bits_of-pos : (n : ℕ) → n < 2 ^ 64 → bits_of (pos n) ≡ n
bits_of-pos n small = omega arith

-- ---- signed words

abs_cast_signed : (a : ℕ) → a < 2 ^ 64 → unsigned_abs (cast_signed w64 a) ≤ 2 ^ 63
abs_cast_signed a small = elim (cases_lt a (2 ^ 63)) [
  | inl low ↦ subst (λ z. unsigned_abs z ≤ 2 ^ 63) (sym (to_z_pos w64 a low)) (omega arith)
  | inr high ↦ subst (λ z. unsigned_abs z ≤ 2 ^ 63) (sym (cast_signed-high a high small)) (omega arith)
]

-- as far from zero on the other side
pub abs_neg : (n : ℕ) → unsigned_abs (neg_ℤ (pos n)) ≡ n
abs_neg zero = refl
abs_neg (suc n) = refl

abs_int_div : (x y : ℤ) → unsigned_abs (int_div x y) ≤ unsigned_abs x
abs_int_div (pos a) (pos b) = div-le_self a b
abs_int_div (pos a) (negsuc b) = subst (λ n. n ≤ a) (sym (abs_neg (a / suc b))) (div-le_self a (suc b))
abs_int_div (negsuc a) (pos b) = subst (λ n. n ≤ suc a) (sym (abs_neg (suc a / b))) (div-le_self (suc a) b)
abs_int_div (negsuc a) (negsuc b) = div-le_self (suc a) (suc b)

abs_int_rem : (x y : ℤ) → unsigned_abs (int_rem x y) ≤ unsigned_abs x
abs_int_rem (pos a) y = mod-le a (unsigned_abs y)
abs_int_rem (negsuc a) y = subst (λ n. n ≤ suc a) (sym (abs_neg (suc a % unsigned_abs y))) (mod-le (suc a) (unsigned_abs y))

abs_int_shr : (x : ℤ) (k : ℕ) → unsigned_abs (int_shr x k) ≤ unsigned_abs x
abs_int_shr (pos a) k = div-le_self a (2 ^ k)
abs_int_shr (negsuc a) k = let e : a / 2 ^ k ≤ a = div-le_self a (2 ^ k) in omega arith

-- ---- the operators

pub bits_of-read : (signed : Bool) (a : ℕ) → a < 2 ^ 64 → bits_of (read signed a) ≡ a
bits_of-read true a small = bits_of-cast_signed a small
bits_of-read false a small = bits_of-pos a small

-- a bitwise operator, that keeps to 64 bits
bitwise : (f : ℕ → ℕ → ℕ) (signed : Bool) (a b : ℕ) → a < 2 ^ 64 → b < 2 ^ 64 → f a b < 2 ^ 64
    → bits_of (pos (f (bits_of (read signed a)) (bits_of (read signed b)))) ≡ f a b
bitwise f signed a b sa sb small =
    ap (λ x. bits_of (pos (f x (bits_of (read signed b))))) (bits_of-read signed a sa)
    ∙ ap (λ y. bits_of (pos (f a y))) (bits_of-read signed b sb)
    ∙ bits_of-pos (f a b) small

difference : (a b : ℕ) → a < 2 ^ 64 → b < 2 ^ 64 → bits_of (pos a -ℤ pos b) ≡ difference_of a b
difference a b sa sb = ap unsigned_abs (int_rem_euclid_is (pos a -ℤ pos b) (pos (2 ^ 64)) (2 ^ 64) 1 (a + (2 ^ 64 - b)) (omega arith) refl (omega (arith, ints)))

pub operated : (op : ArithmeticOperator) (signed : Bool) (a b : ℕ) → a < 2 ^ 64 → b < 2 ^ 64
    → bits_of (whole_of op (read signed a) (read signed b)) ≡ operate op signed a b
operated Multiply true a b sa sb = from_wrapped (operate Multiply true a b) _ (omega arith) (wrapping_mul-bits w64 a b sa sb)
operated Multiply false a b sa sb = refl
operated Divide true a b sa sb = bits_of-small (int_div (cast_signed w64 a) (cast_signed w64 b)) (omega (arith, abs_int_div (cast_signed w64 a) (cast_signed w64 b), abs_cast_signed a sa))
operated Divide false a b sa sb = bits_of-pos (a / b) (omega (arith, div-le_self a b))
operated Remainder true a b sa sb = bits_of-small (int_rem (cast_signed w64 a) (cast_signed w64 b)) (omega (arith, abs_int_rem (cast_signed w64 a) (cast_signed w64 b), abs_cast_signed a sa))
operated Remainder false a b sa sb = bits_of-pos (a % b) (omega (arith, mod-le a b))
operated Add true a b sa sb = from_wrapped (sum_of a b) _ (omega arith) (wrapping_add-bits w64 a b sa sb)
operated Add false a b sa sb = refl
operated Subtract true a b sa sb = from_wrapped (difference_of a b) _ (omega arith) (wrapping_sub-bits w64 a b sa sb)
operated Subtract false a b sa sb = difference a b sa sb
operated BitAnd signed a b sa sb = bitwise bit_and signed a b sa sb (omega (arith, and_le_l a b))
operated BitXor signed a b sa sb = bitwise bit_xor signed a b sa sb (xor_lt 64 a b sa sb)
operated BitOr signed a b sa sb = bitwise bit_or signed a b sa sb (or_lt 64 a b sa sb)

wrap_pos : (n : ℕ) → int_wrap w64 (pos n) ≡ cast_signed w64 (n % 2 ^ 64)
unfolding int_wrap
wrap_pos n = refl

-- a signed word moved to the left: to wrap it before changes nothing
moved_left : (a count : ℕ) → a < 2 ^ 64 → bits_of (cast_signed w64 a *ℤ pos (2 ^ count)) ≡ (a * 2 ^ count) % 2 ^ 64
moved_left a count small =
    from_wrapped ((a * 2 ^ count) % 2 ^ 64) (cast_signed w64 a *ℤ pos (2 ^ count)) (omega arith)
    (sym (wrap_pos (a * 2 ^ count)) ∙ sym (int_wrap-mul_left w64 (pos a) (pos (2 ^ count)))
    ∙ ap (λ x. int_wrap w64 (x *ℤ pos (2 ^ count))) (wrap_pos a ∙ ap (cast_signed w64) (mod-eq_of_lt small)))

pub moved : (op : ShiftOperator) (signed : Bool) (a count : ℕ) → a < 2 ^ 64
    → bits_of (whole_shift_of op (read signed a) count) ≡ shift_result op signed a count
moved Left true a count small = moved_left a count small
moved Left false a count small = refl
moved Right true a count small = bits_of-small (int_shr (cast_signed w64 a) count) (omega (arith, abs_int_shr (cast_signed w64 a) count, abs_cast_signed a small))
moved Right false a count small = bits_of-pos (a / 2 ^ count) (omega (arith, div-le_self a (2 ^ count)))
