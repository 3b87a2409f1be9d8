-- Buckets: labels rise, so that one bucket alone has a number.
use Rattle.std.proofs.Common.{◌≡◌, ℕ, zero, suc, ◌+◌, ◌-◌, ◌*◌, ◌/◌, ◌%◌, ◌^◌, ◌<◌, ◌≤◌, ◌==◌, true}
use Rattle.std.proofs.Common.{false, cond, ◌⊎◌, inl, inr, refl, ap, ◌∙◌, ⊎_elim, add-one, arith}
use Rattle.std.proofs.Common.{min, to_z, ◌&&◌, ◌||◌}
use Rattle.std.specs.Prelude.{ℤ, pos, neg_ℤ, ◌+ℤ◌, ◌≤ℤ◌, ◌<ℤ◌, int_le, int_lt}
use Rattle.std.proofs.lemmas.Bool.{cases_lt, lt-ltb}
use Rattle.std.proofs.lemmas.Bool.Decides.{nat_tests}
use Rattle.std.proofs.lemmas.Int.{ints, by_lt_z, to_z_pos}
use Rattle.std.proofs.Math.Nat.{pow-le-pow_right, div-mul-le_self, lt-div-mul-add, mul-le-mul_right}
use Rattle.std.proofs.lemmas.Nat.{one_shl}
use mir.Syntax.{w64}
use Rattle.aggregations.specs.Vocabulary.{LinearRange, Scale, Powers, Steps}
use Rattle.aggregations.specs.Buckets.{levels_of, buckets, label, is_in}

lt_true : (a b : ℤ) → a <ℤ b → int_lt a b ≡ true
lt_true a b h = grind (arith, ints)

lt_false : (a b : ℤ) → b ≤ℤ a → int_lt a b ≡ false
lt_false a b h = grind (arith, ints)

-- ---- labels that rise

module _ (l : ℕ → ℤ) (n : ℕ) where
  abbrev Rises : Type 0
  Rises = (i j : ℕ) → i ≤ j → j < n → l i ≤ℤ l j

  rises : ((i : ℕ) → suc i < n → l i ≤ℤ l (suc i)) → Rises
  rises step i zero le lt = let same : i ≡ zero = omega arith in rw same (omega (arith, ints))
  rises step i (suc j) le lt = ⊎_elim
      (λ (before : i < suc j). let earlier = rises step i j (omega arith) (omega arith) in let here = step j lt in omega (arith, ints))
      (λ (past : suc j ≤ i). let same : i ≡ suc j = omega arith in rw same (omega (arith, ints))) (cases_lt i (suc j))

  abbrev Greatest : ℤ → ℕ → Type 0
  Greatest x r = (b : ℕ) → b < n → (int_le (l b) x && ((suc b == n) || int_lt x (l (suc b)))) ≡ (b == r)

  abbrev Least : ℤ → ℕ → Type 0
  Least x r = (b : ℕ) → b < n → (int_le x (l b) && ((b == 0) || int_lt (l (b - 1)) x)) ≡ (b == r)

  greatest_only : (x : ℤ) (r : ℕ) → Rises → r < n → l r ≤ℤ x → ((suc r ≡ n) ⊎ (x <ℤ l (suc r))) → Greatest x r
  greatest_only x r up within here next b lt = let below = up (suc b) r in let above = up (suc r) b in grind (arith, ints, nat_tests)

  least_only : (x : ℤ) (r : ℕ) → Rises → r < n → x ≤ℤ l r → ((r ≡ 0) ⊎ (l (r - 1) <ℤ x)) → Least x r
  least_only x r up within here before b lt = let below = up b (r - 1) in let above = up r (b - 1) in grind (arith, ints, nat_tests)

  -- there is one, if the label of a bucket is not above the number, or not below it
  greatest_from : (x : ℤ) (more b : ℕ) → Rises → more + suc b ≡ n → l b ≤ℤ x → (r : ℕ) × (r < n) × Greatest x r
  greatest_from x zero b up all here = (b, omega arith, greatest_only x b up (omega arith) here (inl (omega arith)))
  greatest_from x (suc more) b up all here = by_lt_z x (l (suc b))
      (λ (lt : x <ℤ l (suc b)). (b, omega arith, greatest_only x b up (omega arith) here (inr lt)))
      (λ (le : l (suc b) ≤ℤ x). greatest_from x more (suc b) up (omega arith) le)

  least_from : (x : ℤ) (b : ℕ) → Rises → b < n → x ≤ℤ l b → (r : ℕ) × (r < n) × Least x r
  least_from x zero up within here = (zero, within, least_only x zero up within here (inl refl))
  least_from x (suc b) up within here = by_lt_z (l b) x
      (λ (lt : l b <ℤ x). (suc b, within, least_only x (suc b) up within here (inr (rw (let same : suc b - 1 ≡ b = omega arith in same) lt))))
      (λ (le : x ≤ℤ l b). least_from x b up (omega arith) le)

-- ---- linear quantization

levels_rise : (r : LinearRange) → Rises (label (Steps r)) (levels_of r + 2)
levels_rise r = rises (label (Steps r)) (levels_of r + 2) step
  where
    step : (i : ℕ) → suc i < levels_of r + 2 → label (Steps r) i ≤ℤ label (Steps r) (suc i)
    step zero lt = omega (arith, ints)
    step (suc i) lt =
        let more : suc i * r.step ≡ i * r.step + r.step = omega arith in
        omega (arith, ints)

-- a number at or above the lower bound
pub level_only : (r : LinearRange) (x : ℤ) (d : ℕ) → x ≡ r.lower +ℤ pos d → 0 < r.step
    → (b : ℕ) → b < buckets (Steps r) → is_in (Steps r) b x ≡ (b == min (d / r.step) (levels_of r) + 1)
level_only r x d is some b lt =
    let k = min (d / r.step) (levels_of r) in
    let least : k ≤ d / r.step = omega arith in
    let low = mul-le-mul_right r.step least in
    let below = div-mul-le_self d r.step in
    let above = lt-div-mul-add {a = d} some in
    let next : (suc (suc k) ≡ levels_of r + 2) ⊎ (x <ℤ label (Steps r) (suc (suc k))) = ⊎_elim
    (λ (inner : d / r.step < levels_of r). let same : k ≡ d / r.step = omega arith in inr (rw same (omega (arith, ints))))
    (λ (last : levels_of r ≤ d / r.step). inl (omega arith)) (cases_lt (d / r.step) (levels_of r)) in
    rw (lt_false x r.lower (omega (arith, ints)), add-one)
    (greatest_only (label (Steps r)) (levels_of r + 2) x (suc k) (levels_rise r) (omega arith) (omega (arith, ints)) next b lt)

-- ---- powers of two

pub low_label : (b k : ℕ) → b < 63 → 62 - b ≡ k → label Powers b ≡ neg_ℤ (pos (2 ^ k))
low_label b k lt is = ap (λ t. cond t (neg_ℤ (pos (2 ^ (62 - b)))) (cond (b == 63) (pos 0) (pos (2 ^ (b - 64))))) (lt-ltb b 63 lt) ∙ ap (λ e. neg_ℤ (pos (2 ^ e))) is

pub high_label : (b k : ℕ) → 64 ≤ b → b - 64 ≡ k → label Powers b ≡ pos (2 ^ k)
high_label b k le is = grind (arith, nat_tests)

pub powers : (i j : ℕ) → i ≤ j → 2 ^ i ≤ 2 ^ j
powers i j le = pow-le-pow_right (omega arith) le

-- what is below a power of two has a lesser power
pub exponent_lt : (k n m : ℕ) → 2 ^ k ≤ m → m < 2 ^ n → k < n
exponent_lt k n m le lt = ⊎_elim (λ (h : k < n). h) (λ (h : n ≤ k). let p = powers n k h in absurd (omega arith)) (cases_lt k n)

powers_rise : Rises (label Powers) 127
powers_rise = rises (label Powers) 127 (λ i lt.
    let below = powers (62 - suc i) (62 - i) (omega arith) in
    let above = powers (i - 64) (suc i - 64) (omega arith) in
    grind (arith, ints, nat_tests))

-- a number above zero
pub above_zero : (x : ℤ) (m k : ℕ) → x ≡ pos m → 2 ^ k ≤ m → m < 2 ^ (k + 1) → k < 63
    → (b : ℕ) → b < 127 → is_in Powers b x ≡ (b == 64 + k)
above_zero x m k is low high small b lt =
    let here = high_label (64 + k) k (omega arith) (omega arith) in
    let next = high_label (suc (64 + k)) (k + 1) (omega arith) (omega arith) in
    rw (lt_false x (pos 0) (omega (arith, ints)))
    (greatest_only (label Powers) 127 x (64 + k) powers_rise (omega arith) (omega (arith, ints)) (inr (omega (arith, ints))) b lt)

-- a number below zero
pub below_zero : (x : ℤ) (m k : ℕ) → x ≡ neg_ℤ (pos m) → 0 < m → 2 ^ k ≤ m → m < 2 ^ (k + 1)
    → (b : ℕ) → b < 127 → is_in Powers b x ≡ (b == 62 - min k 62)
below_zero x m k is some low high b lt =
    let e = min k 62 in
    let here = low_label (62 - e) e (omega arith) (omega arith) in
    let less = powers e k (omega arith) in
    let before : (62 - e ≡ 0) ⊎ (label Powers (62 - e - 1) <ℤ x) = ⊎_elim
    (λ (inner : k < 62). let there = low_label (62 - e - 1) (k + 1) (omega arith) (omega arith) in inr (omega (arith, ints)))
    (λ (last : 62 ≤ k). inl (omega arith)) (cases_lt k 62) in
    rw (lt_true x (pos 0) (omega (arith, ints)))
    (least_only (label Powers) 127 x (62 - e) powers_rise (omega arith) (omega (arith, ints)) before b lt)

-- ---- each number has a bucket

pub one_bucket : (f : Scale) (x : ℤ) → (bucket : ℕ) × (bucket < buckets f) × ((b : ℕ) → b < buckets f → is_in f b x ≡ (b == bucket))
one_bucket Powers x = by_lt_z x (pos 0)
    (λ (lt : x <ℤ pos 0). rw (lt_true x (pos 0) lt) (least_from (label Powers) 127 x 62 powers_rise (omega arith) (omega (arith, ints))))
    (λ (le : pos 0 ≤ℤ x). rw (lt_false x (pos 0) le) (greatest_from (label Powers) 127 x 63 63 powers_rise (omega arith) le))
one_bucket (Steps range) x = by_lt_z x range.lower
    (λ (lt : x <ℤ range.lower). rw (lt_true x range.lower lt) (0, omega arith, λ b within. refl))
    (λ (le : range.lower ≤ℤ x). rw (lt_false x range.lower le) (greatest_from (label (Steps range)) (levels_of range + 2) x (levels_of range) 1 (levels_rise range) (omega arith) (omega (arith, ints))))

-- ---- numbers that fit

pub power_shifted : (k : ℕ) → k < 63 → to_z w64 (1 * 2 ^ k % 2 ^ 64) ≡ pos (2 ^ k)
power_shifted k lt = ap (to_z w64) (one_shl k 64 (omega arith)) ∙ to_z_pos w64 (2 ^ k) (let p = powers k 62 (omega arith) in omega arith)

pub steps_small : (i s : ℕ) → i < 2 ^ 32 → s < 2 ^ 16 → i * s < 2 ^ 48
steps_small i s a b = let p = mul-le-mul_right s (let le : i ≤ 2 ^ 32 = omega arith in le) in omega arith
