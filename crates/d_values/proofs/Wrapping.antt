-- A narrowed word stands for its number wrapped into the type.
use Rattle.std.specs.Prelude.{◌≡◌, ◌≢◌, ℕ, suc, ◌+◌, ◌-◌, ◌*◌, ◌%◌, ◌^◌, ◌<◌, ◌≤◌, ℤ, pos}
use Rattle.std.specs.Prelude.{negsuc, ◌-ℤ◌, true, false}
use Rattle.std.proofs.Common.{refl, sym, ap, ◌∙◌, arith, inl, inr, subst}
use Rattle.d_values.specs.Vocabulary.{cast_signed, w64, IntType}
use Rattle.std.proofs.lemmas.Bool.{cases_lt, cases_eq}
use Rattle.std.proofs.lemmas.Bool.Decides.{nat_tests}
use Rattle.std.proofs.lemmas.Int.{ints, to_z_pos}
use Rattle.std.proofs.lemmas.Nat.{mod_below, pow_pos}
use Rattle.d_values.specs.Widths.{is_width}
use Rattle.d_values.specs.Words.{sign_extension, narrow}
use Rattle.d_values.specs.Numbers.{number_of, read, modulo, bits_of, number_of_bits, wrap}
use Rattle.d_values.proofs.Residues.{cast_signed-high}
use Rattle.d_values.proofs.Narrowing.{extended_high, extended_low, extended_plain}

last : (w : ℕ) → is_width w ≡ true → w ≢ 8 → w ≢ 16 → w ≢ 32 → w ≡ 64
last w known not8 not16 not32 = grind (arith, nat_tests)

-- what holds of the four widths holds of a type's
pub by_width : (P : ℕ → Type 0) → P 8 → P 16 → P 32 → P 64 → (w : ℕ) → is_width w ≡ true → P w
by_width P p8 p16 p32 p64 w known = elim (cases_eq w 8) [
  | inl e ↦ subst P (sym e) p8
  | inr not8 ↦ elim (cases_eq w 16) [
    | inl e ↦ subst P (sym e) p16
    | inr not16 ↦ elim (cases_eq w 32) [
      | inl e ↦ subst P (sym e) p32
      | inr not32 ↦ subst P (sym (last w known not8 not16 not32)) p64
    ]
  ]
]

-- z modulo 2 ^ 64 has the lowest bits of z
modulo-modulo : (z : ℤ) (w : ℕ) → is_width w ≡ true → bits_of z % 2 ^ w ≡ modulo z (2 ^ w)
modulo-modulo (pos n) w known = by_width (λ w. n % 2 ^ 64 % 2 ^ w ≡ n % 2 ^ w) (omega arith) (omega arith) (omega arith) (omega arith) w known
modulo-modulo (negsuc n) w known =
    by_width (λ w. (2 ^ 64 - 1 - n % 2 ^ 64) % 2 ^ w ≡ 2 ^ w - 1 - n % 2 ^ w) (omega arith) (omega arith) (omega arith) (omega arith) w known

-- and so it has the same remainder by a width
pub modulo-width : (z : ℤ) (w : ℕ) → is_width w ≡ true → bits_of z % w ≡ modulo z w
modulo-width (pos n) w known = by_width (λ w. n % 2 ^ 64 % w ≡ n % w) (omega arith) (omega arith) (omega arith) (omega arith) w known
modulo-width (negsuc n) w known =
    by_width (λ w. (2 ^ 64 - 1 - n % 2 ^ 64) % w ≡ w - 1 - n % w) (omega arith) (omega arith) (omega arith) (omega arith) w known

-- halves of the widths
pub record Sizes (w : ℕ) : Type 0 where
  pub double : 2 ^ w ≡ 2 * 2 ^ (w - 1)
  pub within : 2 ^ w ≤ 2 ^ 64

pub sizes : (w : ℕ) → is_width w ≡ true → Sizes w
sizes = by_width Sizes (record { double = refl; within = omega arith }) (record { double = refl; within = omega arith })
    (record { double = refl; within = omega arith }) (record { double = refl; within = omega arith })

pub typed_plain : (t : IntType) (low : ℕ) → t.signed ≡ false → number_of_bits t low ≡ pos low
typed_plain t low plain = grind (arith, nat_tests)

pub typed_low : (t : IntType) (low : ℕ) → low < 2 ^ (t.width - 1) → number_of_bits t low ≡ pos low
typed_low t low under = grind (arith, nat_tests)

pub typed_high : (t : IntType) (low : ℕ) → t.signed ≡ true → 2 ^ (t.width - 1) ≤ low → number_of_bits t low ≡ pos low -ℤ pos (2 ^ t.width)
typed_high t low signed over = grind (arith, nat_tests)

below_zero : (low size : ℕ) → low < size → size ≤ 2 ^ 64 → size ≤ 2 * low → cast_signed w64 (low + (2 ^ 64 - size)) ≡ pos low -ℤ pos size
below_zero low size small within over =
    let negative : negsuc (2 ^ 64 - suc (low + (2 ^ 64 - size))) ≡ pos low -ℤ pos size = omega (arith, ints) in
    cast_signed-high (low + (2 ^ 64 - size)) (omega arith) (omega arith) ∙ negative

module _ (t : IntType) (low : ℕ) (small : low < 2 ^ t.width) where
  signed_number : t.signed ≡ true → number_of t (sign_extension t low) ≡ number_of_bits t low
  signed_number signed =
      let size = sizes t.width t.known in
      elim (cases_lt low (2 ^ (t.width - 1))) [
        | inl under ↦ ap (λ s. read s (sign_extension t low)) signed ∙ ap (cast_signed w64) (extended_low t low under)
            ∙ to_z_pos w64 low (omega (arith, size.double, size.within)) ∙ sym (typed_low t low under)
        | inr over ↦ ap (λ s. read s (sign_extension t low)) signed ∙ ap (cast_signed w64) (extended_high t low signed over)
            ∙ below_zero low (2 ^ t.width) small size.within (omega (arith, size.double)) ∙ sym (typed_high t low signed over)
      ]

  number-extended : number_of t (sign_extension t low) ≡ number_of_bits t low
  number-extended = elim t.signed as (λ s. t.signed ≡ s → number_of t (sign_extension t low) ≡ number_of_bits t low) [
    | true ↦ signed_number
    | false ↦ λ plain. ap (λ s. read s (sign_extension t low)) plain ∙ ap pos (extended_plain t low plain) ∙ sym (typed_plain t low plain)
  ] refl

pub number-narrow : (t : IntType) (z : ℤ) (word : ℕ) → bits_of z ≡ word → number_of t (narrow t word) ≡ wrap t z
number-narrow t z word e =
    number-extended t (word % 2 ^ t.width) (mod_below word (2 ^ t.width) (pow_pos t.width))
    ∙ ap (number_of_bits t) (ap (λ n. n % 2 ^ t.width) (sym e) ∙ modulo-modulo z t.width t.known)
