-- Different buckets have different labels, so that the counts of a histogram can be read back.
use Rattle.std.proofs.Common.{◌≡◌, ◌⊎◌, inl, inr, ℕ, zero, suc, ◌+◌, ◌-◌, ◌*◌, ◌<◌, ◌≤◌, Bool, true}
use Rattle.std.proofs.Common.{false, cond, ltb, List, ◌∷◌, filter, map, refl, sym, ap, subst}
use Rattle.std.proofs.Common.{arith, ◌&&◌}
use Rattle.std.specs.Prelude.{ℤ, ◌<ℤ◌, nat_le}
use Rattle.std.specs.List.{range_with_len}
use Rattle.std.proofs.lemmas.Bool.{and_parts, cases_eq, cases_lt, leb-true, ltb-false}
use Rattle.std.proofs.lemmas.Int.{ints}
use Rattle.std.proofs.lemmas.Nat.{pow_below}
use Rattle.data_lines.specs.Vocabulary.{LinearRange, Scale, Powers, Steps, buckets, label, levels_of}
use Rattle.aggregations.specs.Ranges.{is_one_to}
use Rattle.aggregations.proofs.RankLemmas.{are_bounds}
use Rattle.aggregations.proofs.BucketLemmas.{high_label, low_label}

power_step : (i : ℕ) → suc i < 127 → label Powers i <ℤ label Powers (suc i)
power_step i lt = at (cases_lt i 62) (cases_eq i 62) (cases_eq i 63)
  where
    at : ((i < 62) ⊎ (62 ≤ i)) → ((i ≡ 62) ⊎ (i ≡ 62 → ⊥)) → ((i ≡ 63) ⊎ (i ≡ 63 → ⊥)) → label Powers i <ℤ label Powers (suc i)
    at (inl low) e f =
        let a = low_label i (62 - i) (omega arith) refl in
        let b = low_label (suc i) (62 - suc i) (omega arith) refl in
        let p = pow_below (62 - suc i) (62 - i) (omega arith) in
        omega (arith, ints)
    at (inr high) (inl e) f = subst (λ k. label Powers k <ℤ label Powers (suc k)) (sym e) (omega (arith, ints))
    at (inr high) (inr ne) (inl e) = subst (λ k. label Powers k <ℤ label Powers (suc k)) (sym e) (omega (arith, ints))
    at (inr high) (inr ne) (inr ne') =
        let a = high_label i (i - 64) (omega arith) refl in
        let b = high_label (suc i) (suc i - 64) (omega arith) refl in
        let p = pow_below (i - 64) (suc i - 64) (omega arith) in
        omega (arith, ints)

some_step : (r : LinearRange) → 0 < r.step
some_step r =
    let front = (and_parts (are_bounds r.lower r.upper && is_one_to 65535 r.step) (is_one_to 65535 (levels_of r)) r.in_range).0 in
    let step = (and_parts (are_bounds r.lower r.upper) (is_one_to 65535 r.step) front).1 in
    leb-true 1 r.step (and_parts (nat_le 1 r.step) (nat_le r.step 65535) step).0

level_step : (r : LinearRange) (i : ℕ) → label (Steps r) i <ℤ label (Steps r) (suc i)
level_step r zero = omega (arith, ints)
level_step r (suc i) =
    let some = some_step r in
    let more : suc i * r.step ≡ i * r.step + r.step = omega arith in
    omega (arith, ints)

step : (scale : Scale) (i : ℕ) → suc i < buckets scale → label scale i <ℤ label scale (suc i)
step Powers i lt = power_step i lt
step (Steps r) i lt = level_step r i

-- labels rise
rises : (scale : Scale) (i j : ℕ) → i < j → j < buckets scale → label scale i <ℤ label scale j
rises scale i zero below within = absurd (omega arith)
rises scale i (suc j) below within = at (λ lt. rises scale i j lt (omega arith)) (cases_eq i j)
  where
    at : (i < j → label scale i <ℤ label scale j) → ((i ≡ j) ⊎ (i ≡ j → ⊥)) → label scale i <ℤ label scale (suc j)
    at before (inl e) = subst (λ k. label scale k <ℤ label scale (suc j)) (sym e) (step scale j within)
    at before (inr ne) =
        let earlier = before (omega arith) in
        let here = step scale j within in
        omega (arith, ints)

-- ---- buckets with their counts

-- the label and the count of a bucket
abbrev pub counted : Scale → (ℕ → ℕ) → ℕ → ℤ × ℕ
counted scale count b = (label scale b, count b)

abbrev pub used : (ℕ → ℕ) → ℕ → ℕ → List ℕ
used count a n = filter (λ b. ltb 0 (count b)) (range_with_len a n)

-- the first of them is of a bucket of the range
first_used : (scale : Scale) (count : ℕ → ℕ) (a n : ℕ) (x : ℤ × ℕ) (xs : List (ℤ × ℕ)) → x ∷ xs ≡ map (counted scale count) (used count a n)
    → (b : ℕ) × (a ≤ b) × (b < a + n) × (x.0 ≡ label scale b)
first_used scale count a zero x xs e = absurd cc
first_used scale count a (suc n) x xs e = at (ltb 0 (count a)) e (first_used scale count (a + 1) n x xs)
  where
    at : (t : Bool) → x ∷ xs ≡ map (counted scale count) (cond t (a ∷ used count (a + 1) n) (used count (a + 1) n))
        → (x ∷ xs ≡ map (counted scale count) (used count (a + 1) n) → (b : ℕ) × (a + 1 ≤ b) × (b < a + 1 + n) × (x.0 ≡ label scale b))
        → (b : ℕ) × (a ≤ b) × (b < a + suc n) × (x.0 ≡ label scale b)
    at true e later = let is : x ≡ (label scale a, count a) = cc in (a, omega arith, omega arith, ap (λ p. p.0) is)
    at false e later = let (b, low, high, is) = later e in (b, omega arith, omega arith, is)

-- a bucket isn't among those after it
not_later : (scale : Scale) (count other : ℕ → ℕ) (a n : ℕ) (xs : List (ℤ × ℕ)) → a + suc n ≤ buckets scale
    → counted scale count a ∷ xs ≡ map (counted scale other) (used other (a + 1) n) → ⊥
not_later scale count other a n xs within e =
    let (b, low, high, is) = first_used scale other (a + 1) n (counted scale count a) xs e in
    let below = rises scale a b (omega arith) (omega arith) in
    omega (arith, ints)

pub counts_back : (scale : Scale) (x y : ℕ → ℕ) (a n : ℕ) → a + n ≤ buckets scale → map (counted scale x) (used x a n) ≡ map (counted scale y) (used y a n)
    → (b : ℕ) → a ≤ b → b < a + n → x b ≡ y b
counts_back scale x y a zero within e b low high = absurd (omega arith)
counts_back scale x y a (suc n) within e b low high =
    at (ltb 0 (x a)) refl (ltb 0 (y a)) refl e (counts_back scale x y (a + 1) n (omega arith)) (cases_eq a b)
  where
    at : (s : Bool) → ltb 0 (x a) ≡ s → (t : Bool) → ltb 0 (y a) ≡ t
        → map (counted scale x) (cond s (a ∷ used x (a + 1) n) (used x (a + 1) n)) ≡ map (counted scale y) (cond t (a ∷ used y (a + 1) n) (used y (a + 1) n))
        → (map (counted scale x) (used x (a + 1) n) ≡ map (counted scale y) (used y (a + 1) n) → (b : ℕ) → a + 1 ≤ b → b < a + 1 + n → x b ≡ y b)
        → ((a ≡ b) ⊎ (a ≡ b → ⊥)) → x b ≡ y b
    at true s true t e later (inl is) = let same : counted scale x a ≡ counted scale y a = cc in subst (λ k. x k ≡ y k) is (ap (λ p. p.1) same)
    at true s true t e later (inr ne) = let rest : map (counted scale x) (used x (a + 1) n) ≡ map (counted scale y) (used y (a + 1) n) = cc in later rest b (omega arith) (omega arith)
    at true s false t e later either = absurd (not_later scale x y a n (map (counted scale x) (used x (a + 1) n)) within e)
    at false s true t e later either = absurd (not_later scale y x a n (map (counted scale y) (used y (a + 1) n)) within (sym e))
    at false s false t e later (inl is) =
        let none = ltb-false 0 (x a) s in
        let other = ltb-false 0 (y a) t in
        subst (λ k. x k ≡ y k) is (omega arith)
    at false s false t e later (inr ne) = later e b (omega arith) (omega arith)
