-- Words that are narrowed, as the code does it.
use Rattle.std.specs.Prelude.{◌≡◌, ◌≢◌, ℕ, ◌+◌, ◌-◌, ◌*◌, ◌/◌, ◌%◌, ◌^◌, ◌<◌, ◌≤◌, true}
use Rattle.std.specs.Prelude.{false, bit_and}
use Rattle.std.proofs.Common.{sym, ap, ◌∙◌, arith}
use Rattle.std.proofs.lemmas.Bool.Decides.{nat_tests}
use Rattle.std.proofs.lemmas.Nat.{and_mask, one_shl, pow-add, pow_below}
use Rattle.d_values.specs.Widths.{is_width}
use Rattle.d_values.specs.Words.{sign_extension, narrow}
use Rattle.d_values.specs.declared.int_type.IntType.{IntType}

pub width_positive : (w : ℕ) → is_width w ≡ true → 0 < w
width_positive w known = grind (arith, nat_tests)

pub width_small : (w : ℕ) → is_width w ≡ true → w ≢ 64 → w < 64
width_small w known other = grind (arith, nat_tests)

-- the bits below the width
low_is : (word w : ℕ) → w < 64 → bit_and word (1 * 2 ^ w % 18446744073709551616 - 1) ≡ word % 2 ^ w
low_is word w small = ap (λ s. bit_and word (s - 1)) (one_shl w 64 small) ∙ and_mask word w

half_is : (w : ℕ) → 0 < w → w < 64 → 1 * 2 ^ w % 18446744073709551616 / 2 ≡ 2 ^ (w - 1)
half_is w positive small = ap (λ s. s / 2) (one_shl w 64 small) ∙ (let e : 2 ^ w ≡ 2 ^ (w - 1) * 2 = ap (λ k. 2 ^ k) (omega arith) ∙ pow-add 2 (w - 1) 1 in omega arith)

pub extended_high : (t : IntType) (low : ℕ) → t.signed ≡ true → 2 ^ (t.width - 1) ≤ low → sign_extension t low ≡ low + (2 ^ 64 - 2 ^ t.width)
extended_high t low signed high = grind (arith, nat_tests)

pub extended_low : (t : IntType) (low : ℕ) → low < 2 ^ (t.width - 1) → sign_extension t low ≡ low
extended_low t low below = grind (arith, nat_tests)

pub extended_plain : (t : IntType) (low : ℕ) → t.signed ≡ false → sign_extension t low ≡ low
extended_plain t low plain = grind (arith, nat_tests)

module _ (t : IntType) (word : ℕ) (other : t.width ≢ 64) where
  small : t.width < 64
  small = width_small t.width t.known other

  pub high : t.signed ≡ true → 1 * 2 ^ t.width % 18446744073709551616 / 2 ≤ bit_and word (1 * 2 ^ t.width % 18446744073709551616 - 1)
      → bit_and word (1 * 2 ^ t.width % 18446744073709551616 - 1) + (18446744073709551615 - 1 * 2 ^ t.width % 18446744073709551616 + 1) ≡ narrow t word
  high signed reaches =
      let low = low_is word t.width small in
      let half = half_is t.width (width_positive t.width t.known) small in
      let size : 1 * 2 ^ t.width % 18446744073709551616 ≡ 2 ^ t.width = one_shl t.width 64 small in
      let below : 2 ^ t.width < 2 ^ 64 = pow_below t.width 64 small in
      let ext = extended_high t (word % 2 ^ t.width) signed (omega arith) in
      omega arith

  pub plain : (t.signed ≡ false) → bit_and word (1 * 2 ^ t.width % 18446744073709551616 - 1) ≡ narrow t word
  plain unsigned = low_is word t.width small ∙ sym (extended_plain t (word % 2 ^ t.width) unsigned)

  pub lower : bit_and word (1 * 2 ^ t.width % 18446744073709551616 - 1) < 1 * 2 ^ t.width % 18446744073709551616 / 2
      → bit_and word (1 * 2 ^ t.width % 18446744073709551616 - 1) ≡ narrow t word
  lower under =
      let low = low_is word t.width small in
      let half = half_is t.width (width_positive t.width t.known) small in
      low ∙ sym (extended_low t (word % 2 ^ t.width) (omega arith))
