-- What the calls answer, as numbers.
use Rattle.std.specs.Prelude.{◌≡◌, ℕ, ◌-◌, ◌%◌, ◌^◌, ◌<◌, ℤ, pos, negsuc, neg_ℤ}
use Rattle.std.specs.Prelude.{◌-ℤ◌, Bool, true, false, if◌then◌else◌}
use Rattle.std.proofs.Common.{refl, sym, ap, ◌∙◌, arith}
use Rattle.std.proofs.lemmas.Bool.Decides.{nat_tests}
use Rattle.std.proofs.lemmas.Int.{ints}
use Rattle.d_values.specs.Vocabulary.{cast_signed, w64, nat_cmp, int_cmp, IntType}
use Rattle.d_values.specs.Vocabulary.{ArithmeticOperator, ShiftOperator}
use Rattle.d_values.specs.Words.{narrow, operate, shift_result, difference_of, shift_of, order_of}
use Rattle.d_values.specs.Numbers.{number_of, read, bits_of, modulo, wrap, whole_of, whole_shift_of}
use Rattle.d_values.specs.declared.operators.ArithmeticOperator.TheVariants.{Subtract}
use Rattle.d_values.proofs.Residues.{bits_of-read, operated, moved}
use Rattle.d_values.proofs.Wrapping.{number-narrow, modulo-width}

pub converted : (from to : IntType) (v : ℕ) → v < 2 ^ 64 → number_of to (narrow to v) ≡ wrap to (number_of from v)
converted from to v small = number-narrow to (number_of from v) v (bits_of-read from.signed v small)

pub computed : (op : ArithmeticOperator) (t : IntType) (a b : ℕ) → a < 2 ^ 64 → b < 2 ^ 64
    → number_of t (narrow t (operate op t.signed a b)) ≡ wrap t (whole_of op (number_of t a) (number_of t b))
computed op t a b sa sb = number-narrow t (whole_of op (number_of t a) (number_of t b)) (operate op t.signed a b) (operated op t.signed a b sa sb)

pub shifts : (op : ShiftOperator) (t : IntType) (a count : ℕ) → a < 2 ^ 64
    → number_of t (shift_of op t a count) ≡ wrap t (whole_shift_of op (number_of t a) (count % t.width))
shifts op t a count small =
    number-narrow t (whole_shift_of op (number_of t a) (count % t.width)) (shift_result op t.signed a (count % t.width)) (moved op t.signed a (count % t.width) small)

pub counts : (t c : IntType) (count : ℕ) → count < 2 ^ 64 → count % t.width ≡ modulo (number_of c count) t.width
counts t c count small = ap (λ n. n % t.width) (sym (bits_of-read c.signed count small)) ∙ modulo-width (number_of c count) t.width t.known

neg_is : (signed : Bool) (z : ℤ) → neg_ℤ z ≡ read signed 0 -ℤ z
neg_is true z = omega (arith, ints)
neg_is false z = omega (arith, ints)

pub opposites : (t : IntType) (a : ℕ) → a < 2 ^ 64 → number_of t (narrow t (difference_of 0 a)) ≡ wrap t (neg_ℤ (number_of t a))
opposites t a small =
    number-narrow t (neg_ℤ (number_of t a)) (difference_of 0 a)
    (ap bits_of (neg_is t.signed (number_of t a)) ∙ operated Subtract t.signed 0 a (omega arith) small)

turned : (z : ℤ) → bits_of (neg_ℤ z -ℤ pos 1) ≡ 2 ^ 64 - 1 - bits_of z
turned (pos n) = let e : neg_ℤ (pos n) -ℤ pos 1 ≡ negsuc n = omega (arith, ints) in ap bits_of e
turned (negsuc n) = let e : neg_ℤ (negsuc n) -ℤ pos 1 ≡ pos n = omega (arith, ints) in ap bits_of e ∙ omega arith

pub complements : (t : IntType) (a : ℕ) → a < 2 ^ 64 → number_of t (narrow t (2 ^ 64 - 1 - a)) ≡ wrap t (neg_ℤ (number_of t a) -ℤ pos 1)
complements t a small =
    number-narrow t (neg_ℤ (number_of t a) -ℤ pos 1) (2 ^ 64 - 1 - a)
    (turned (number_of t a) ∙ ap (λ n. 2 ^ 64 - 1 - n) (bits_of-read t.signed a small))

order_read : (signed : Bool) (a b : ℕ) → (if signed then int_cmp (cast_signed w64 a) (cast_signed w64 b) else nat_cmp a b) ≡ int_cmp (read signed a) (read signed b)
order_read true a b = refl
order_read false a b = grind (arith, nat_tests)

pub orders : (t : IntType) (a b : ℕ) → order_of t a b ≡ int_cmp (number_of t a) (number_of t b)
orders t a b = order_read t.signed a b
