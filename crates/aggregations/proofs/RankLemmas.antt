-- The sum of label times count, over the buckets that were used.
use Rattle.std.proofs.Common.{◌≡◌, ℕ, zero, suc, ◌+◌, ◌-◌, ◌*◌, ◌^◌, ◌<◌, ◌≤◌, Bool, ◌&&◌, List, []}
use Rattle.std.proofs.Common.{◌∷◌, length, get_or, set, sum, map, refl, sym, ap, ◌∙◌, subst}
use Rattle.std.proofs.Common.{zero-add, arith}
use Rattle.std.specs.Prelude.{ℤ, pos, neg_ℤ, ◌+ℤ◌, ◌*ℤ◌, ◌≤ℤ◌, ◌<ℤ◌, int_le, int_lt, unsigned_abs}
use Rattle.std.specs.Prelude.{FitsSigned}
use Rattle.std.specs.List.{range_with_len, enumerate_from}
use Rattle.std.specs.Option.{unwrap_or}
use lib.IntN.{*ℤ-zero}
use mir.Syntax.{w128}
use Rattle.std.proofs.lemmas.Bool.Decides.{nat_tests}
use Rattle.std.proofs.lemmas.Int.{fits_signed_from_abs, ints, unsigned_abs-mul}
use Rattle.std.proofs.Math.Nat.{mul-le-mul_right}
use Rattle.aggregations.specs.Vocabulary.{LinearRange, Scale, Powers, Steps}
use Rattle.aggregations.specs.Buckets.{buckets, label, levels_of}
use Rattle.aggregations.specs.Values.{total}
use Rattle.aggregations.specs.Figures.{rank_of}
use Rattle.aggregations.specs.Figures.Figure.{Distribution}
use Rattle.aggregations.specs.Histograms.{AreUsed, used_at, counts_used}
use Rattle.aggregations.proofs.BucketLemmas.{powers, steps_small}
use Rattle.aggregations.proofs.HistogramLemmas.{counts_front, gone_after, kept_front, kept_rest}
use Rattle.aggregations.proofs.HistogramLemmas.{seen, sum-front, table_at, within_counts}

-- ---- one number more in a list

module _ (h : ℕ → ℕ → ℤ) (nothing : (b : ℕ) → h b 0 ≡ pos 0) where
  total_none : (a n k : ℕ) → total (map (λ b. h b.0 b.1) (enumerate_from a (map (λ b. 0) (range_with_len n k)))) ≡ pos 0
  total_none a n zero = refl
  total_none a n (suc k) = let here = nothing a in let rest = total_none (a + 1) (n + 1) k in omega (arith, ints)

  total_set : (xs : List ℕ) (a k j m : ℕ) → a + k ≡ j → k < length xs → get_or xs k 0 ≡ 0
      → total (map (λ b. h b.0 b.1) (enumerate_from a (set xs k (get_or xs k 0 + m)))) ≡ h j m +ℤ total (map (λ b. h b.0 b.1) (enumerate_from a xs))
  total_set [] a k j m at lt gone = absurd (omega (arith, lt))
  total_set (x ∷ xs) a zero j m at lt gone =
      let was : h a x ≡ pos 0 = ap (h a) gone ∙ nothing a in
      let same : a ≡ j = omega arith in
      let more : x + m ≡ m = omega arith in
      let here : h a (x + m) ≡ h j m = cc in
      omega (arith, ints)
  total_set (x ∷ xs) a (suc k) j m at lt gone = let rest = total_set xs (a + 1) k j m (omega arith) (omega arith) gone in omega (arith, ints)

-- ---- the rank of the buckets that were used

abbrev pub rank : Scale → List (ℕ × ℕ) → ℤ
rank f used = rank_of (Distribution (seen f (counts_used f used)))

rank-none : (f : Scale) → rank f [] ≡ pos 0
rank-none f = total_none (λ b n. label f b *ℤ pos n) (λ b. *ℤ-zero (label f b)) 0 0 (buckets f)

rank-front : (f : Scale) (k m : ℕ) (rest : List (ℕ × ℕ)) → AreUsed f ((k, m) ∷ rest) → rank f ((k, m) ∷ rest) ≡ label f k *ℤ pos m +ℤ rank f rest
rank-front f k m rest kept =
    let within = (kept_front f k m rest kept).0 in
    ap (λ counts. rank_of (Distribution (seen f counts))) (counts_front f k m rest kept)
    ∙ total_set (λ b n. label f b *ℤ pos n) (λ b. *ℤ-zero (label f b)) (counts_used f rest) 0 k k m (zero-add k) (within_counts f rest k within)
    (table_at (used_at rest) (buckets f) k within ∙ ap (λ o. unwrap_or o 0) (gone_after f k m rest kept))

-- ---- labels are small

abbrev pub are_bounds : ℤ → ℤ → Bool
are_bounds lower upper = int_le (neg_ℤ (pos (2 ^ 31))) lower && int_lt lower upper && int_lt upper (pos (2 ^ 31))

-- what a range keeps, as numbers
pub range_known : (r : LinearRange) → (neg_ℤ (pos (2 ^ 31)) ≤ℤ r.lower) × (r.lower <ℤ pos (2 ^ 31)) × (r.step ≤ 65535) × (levels_of r ≤ 65535)
range_known r =
    let known = r.in_range in
    (grind (arith, ints, nat_tests), grind (arith, ints, nat_tests), grind (arith, ints, nat_tests), grind (arith, ints, nat_tests))

pub label_small : (f : Scale) (b : ℕ) → b < buckets f → unsigned_abs (label f b) ≤ 2 ^ 62
label_small Powers b lt =
    let low = powers (62 - b) 62 (omega arith) in
    let high = powers (b - 64) 62 (omega arith) in
    grind (arith, ints, nat_tests)
label_small (Steps r) zero lt = let known = range_known r in omega (arith, ints, known.0, known.1)
label_small (Steps r) (suc i) lt =
    let known = range_known r in
    let p = steps_small i r.step (omega (arith, known.3)) (omega (arith, known.2)) in
    omega (arith, ints, known.0, known.1)

-- ---- a loop over the buckets

-- the rank so far, with the buckets `rest` of `all` still to come
pub record Ranking (f : Scale) (all rest : List (ℕ × ℕ)) (so_far : ℤ) : Type 0 where
  pub are : AreUsed f rest
  pub adds : so_far +ℤ rank f rest ≡ rank f all
  pub small : unsigned_abs so_far + 2 ^ 62 * sum (counts_used f rest) ≤ 2 ^ 62 * sum (counts_used f all)

pub ranking_start : (f : Scale) (all : List (ℕ × ℕ)) → AreUsed f all → Ranking f all all (pos 0)
ranking_start f all are = record { are = are; adds = omega (arith, ints); small = omega (arith, ints) }

product_small : (f : Scale) (k m : ℕ) → k < buckets f → unsigned_abs (label f k *ℤ pos m) ≤ 2 ^ 62 * m
product_small f k m lt =
    let p = mul-le-mul_right m (label_small f k lt) in
    subst (λ n. n ≤ 2 ^ 62 * m) (sym (unsigned_abs-mul (label f k) (pos m))) p

module _ (f : Scale) (all rest : List (ℕ × ℕ)) (k m : ℕ) (so_far : ℤ) (r : Ranking f all ((k, m) ∷ rest) so_far) where
  pub ranking_more : Ranking f all rest (so_far +ℤ label f k *ℤ pos m)
  ranking_more =
      let front = rank-front f k m rest r.are in
      let sums = sum-front f k m rest r.are in
      let p = product_small f k m (kept_front f k m rest r.are).0 in
      record { are = kept_rest f k m rest r.are; adds = omega (arith, ints, r.adds); small = omega (arith, ints, r.small) }

  -- what is added and what comes of it fit
  pub ranking_fits : AreUsed f all → FitsSigned w128 (label f k *ℤ pos m) × FitsSigned w128 (so_far +ℤ label f k *ℤ pos m)
  ranking_fits kept =
      let sums = sum-front f k m rest r.are in
      let p = product_small f k m (kept_front f k m rest r.are).0 in
      (fits_signed_from_abs w128 _ (omega (arith, r.small, kept.few)), fits_signed_from_abs w128 _ (omega (arith, ints, r.small, kept.few)))

pub ranking_all : (f : Scale) (all : List (ℕ × ℕ)) (so_far : ℤ) → Ranking f all [] so_far → so_far ≡ rank f all
ranking_all f all so_far r = let none = rank-none f in let was = r.adds in omega (arith, ints)
