-- Words that are values of their types.
use Rattle.std.specs.Prelude.{◌≡◌, ℕ, zero, suc, ◌+◌, ◌-◌, ◌%◌, ◌^◌, ◌<◌, ◌≤◌, ℤ, pos, negsuc, ◌-ℤ◌}
use Rattle.std.specs.Prelude.{Bool, true, false}
use Rattle.std.proofs.Common.{refl, sym, ap, ◌∙◌, subst, arith, inl, inr}
use Rattle.std.proofs.lemmas.Bool.{cases_lt}
use Rattle.std.proofs.lemmas.Int.{ints}
use Rattle.std.proofs.lemmas.Nat.{mod_below, pow_pos}
use Rattle.d_values.specs.declared.int_type.IntType.{IntType}
use Rattle.d_values.specs.Numbers.{number_of_bits, wrap, bits_of}
use Rattle.d_values.specs.Types.{INT32, UINT64}
use Rattle.d_values.specs.Words.{sign_extension, narrow}
use Rattle.d_values.proofs.Lawful.{wrapped, one_number}
use Rattle.d_values.proofs.Narrowing.{extended_high, extended_low, extended_plain}
use Rattle.d_values.proofs.Residues.{bits_of-read}
use Rattle.d_values.proofs.Wrapping.{number-narrow, typed_plain, typed_low, typed_high, sizes}
use Rattle.d_types.specs.Expressions.{truth, bit, inverse}
use Rattle.d_types.specs.Held.{IsWord}

bits_of-below_zero : (low size : ℕ) → low < size → size ≤ 2 ^ 64 → bits_of (pos low -ℤ pos size) ≡ low + (2 ^ 64 - size)
bits_of-below_zero low size small within =
    let negative : pos low -ℤ pos size ≡ negsuc (size - suc low) = omega (arith, ints) in
    ap bits_of negative ∙ (let e : bits_of (negsuc (size - suc low)) ≡ low + (2 ^ 64 - size) = omega arith in e)

bits_of-below : (n : ℕ) → n < 2 ^ 64 → bits_of (pos n) ≡ n
bits_of-below n small = omega arith

module _ (t : IntType) (low : ℕ) (small : low < 2 ^ t.width) where
  plain : t.signed ≡ false → sign_extension t low ≡ bits_of (number_of_bits t low)
  plain unsigned =
      extended_plain t low unsigned ∙ sym (bits_of-below low (omega (arith, (sizes t.width t.known).within))) ∙ ap bits_of (sym (typed_plain t low unsigned))

  signed : t.signed ≡ true → sign_extension t low ≡ bits_of (number_of_bits t low)
  signed is = elim (cases_lt low (2 ^ (t.width - 1))) [
    | inl under ↦ extended_low t low under ∙ sym (bits_of-below low (omega (arith, (sizes t.width t.known).within))) ∙ ap bits_of (sym (typed_low t low under))
    | inr over ↦ extended_high t low is over ∙ sym (bits_of-below_zero low (2 ^ t.width) small (sizes t.width t.known).within)
        ∙ ap bits_of (sym (typed_high t low is over))
  ]

  extended_is : sign_extension t low ≡ bits_of (number_of_bits t low)
  extended_is = elim t.signed as (λ s. t.signed ≡ s → sign_extension t low ≡ bits_of (number_of_bits t low)) [ true ↦ signed | false ↦ plain ] refl

-- what is narrowed to a type is a word of it
pub narrow_is : (t : IntType) (word : ℕ) → IsWord t (narrow t word)
narrow_is t word =
    (wrap t (pos word), (wrapped t (pos word)).number, extended_is t (word % 2 ^ t.width) (mod_below word (2 ^ t.width) (pow_pos t.width)))

bits_small : (z : ℤ) → bits_of z < 2 ^ 64
bits_small (pos n) = omega arith
bits_small (negsuc n) = omega arith

narrow_small : (t : IntType) (word : ℕ) → narrow t word < 2 ^ 64
narrow_small t word = let is = narrow_is t word in subst (λ n. n < 2 ^ 64) (sym is.2) (bits_small is.0)

-- and it leaves each word of the type as it is
pub narrow_leaves : (t : IntType) (word : ℕ) → IsWord t word → narrow t word ≡ word
narrow_leaves t word is =
    let number : is.0 ≡ wrap t is.0 = one_number t is.0 is.0 (record { number = is.1; same = refl }) in
    sym (bits_of-read t.signed (narrow t word) (narrow_small t word))
    ∙ ap bits_of (number-narrow t is.0 word (sym is.2)) ∙ ap bits_of (sym number) ∙ sym is.2

-- small numbers are words of int and of unsigned long
pub int_word : (n : ℕ) → n ≤ 255 → IsWord INT32 n
int_word n small = (pos n, record { least = omega (arith, ints); below = omega (arith, ints) }, sym (bits_of-below n (omega arith)))

pub long_word : (n : ℕ) → n ≤ 255 → IsWord UINT64 n
long_word n small = (pos n, record { least = omega (arith, ints); below = omega (arith, ints) }, sym (bits_of-below n (omega arith)))

pub truth_is : (b : Bool) → IsWord INT32 (truth b)
truth_is true = int_word 1 (omega arith)
truth_is false = int_word 0 (omega arith)

pub bit_is : (n : ℕ) → IsWord INT32 (bit n)
bit_is zero = int_word 0 (omega arith)
bit_is (suc n) = int_word 1 (omega arith)

pub inverse_is : (n : ℕ) → IsWord INT32 (inverse n)
inverse_is zero = int_word 1 (omega arith)
inverse_is (suc n) = int_word 0 (omega arith)
