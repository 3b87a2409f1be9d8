-- The rows of a histogram: those from one bucket before the first with arguments to one after the last.
use Rattle.std.proofs.Common.{◌≡◌, ℕ, zero, suc, ◌+◌, ◌-◌, ◌<◌, ◌≤◌, ◌⊎◌, inl, inr, min, Bool, true}
use Rattle.std.proofs.Common.{false, cond, ◌&&◌, List, [], ◌∷◌, ◌++◌, length, get_or, take, drop}
use Rattle.std.proofs.Common.{filter, map, sum, refl, sym, ap, ◌∙◌, arith, ltb}
use Rattle.std.specs.List.{enumerate_from, flat_map, range_with_len}
use Rattle.std.proofs.lemmas.Bool.{cases_lt, lt-ltb, le-ltb}
use Rattle.std.proofs.lemmas.List.{get_or_past, get_or-take, get_or-drop, length-take}
use Rattle.std.proofs.lemmas.List.{flat_map_more}
use Rattle.std.proofs.Math.Bool.{and-false}
use Rattle.std.proofs.lemmas.List.FromFn.{map-range_with_len_more}
use Rattle.std.proofs.lemmas.List.Sums.{sum_by-cons, get_or-le-sum_by, sum_by-take-le}
use Rattle.aggregations.specs.Histograms.{Histogram, IsSpan}
use Rattle.report.specs.Histograms.{is_row, rows}

-- ---- sums

sum-zeros : (xs : List ℕ) → ((k : ℕ) → k < length xs → get_or xs k 0 ≡ 0) → sum xs ≡ 0
sum-zeros [] none = refl
sum-zeros (x ∷ xs) none =
    let here : x ≡ 0 = none 0 (omega arith) in
    let rest = sum-zeros xs (λ k lt. none (suc k) (omega arith)) in
    let e = sum_by-cons (λ n. n) x xs in
    omega arith

-- a place that isn't 0 is in the list
within : (xs : List ℕ) (k : ℕ) → 0 < get_or xs k 0 → k < length xs
within xs k some = at (cases_lt k (length xs))
  where
    at : ((k < length xs) ⊎ (length xs ≤ k)) → k < length xs
    at (inl lt) = lt
    at (inr le) = let past = get_or_past xs k 0 le in absurd (omega arith)

pub share_le : (xs : List ℕ) (k : ℕ) → get_or xs k 0 ≤ sum xs
share_le xs k = at (cases_lt k (length xs))
  where
    at : ((k < length xs) ⊎ (length xs ≤ k)) → get_or xs k 0 ≤ sum xs
    at (inl lt) = get_or-le-sum_by (λ n. n) xs k 0 lt
    at (inr le) = let past = get_or_past xs k 0 le in omega arith

-- ---- which buckets are shown

module _ (counts : List ℕ) (first last : ℕ) (span : IsSpan counts first last) where
  pub ordered : first ≤ last
  ordered = at (cases_lt last first)
    where
      at : ((last < first) ⊎ (first ≤ last)) → first ≤ last
      at (inl lt) = let gone = span.after first lt in let some = span.starts in absurd (omega arith)
      at (inr le) = le

  pub last_within : last < length counts
  last_within = within counts last span.ends

  starts : (b : ℕ) → first ≤ b + 1 → ltb 0 (sum (take (b + 2) counts)) ≡ true
  starts b le =
      let one = share_le (take (b + 2) counts) first in
      let same = get_or-take (b + 2) counts first 0 (let lt : first < b + 2 = omega arith in lt) in
      let some = span.starts in
      lt-ltb 0 (sum (take (b + 2) counts)) (omega arith)

  not_yet : (b : ℕ) → b + 1 < first → ltb 0 (sum (take (b + 2) counts)) ≡ false
  not_yet b lt =
      let none = sum-zeros (take (b + 2) counts) (λ k inside. at k (cases_lt k (b + 2))) in
      le-ltb 0 (sum (take (b + 2) counts)) (omega arith)
    where
      at : (k : ℕ) → ((k < b + 2) ⊎ (b + 2 ≤ k)) → get_or (take (b + 2) counts) k 0 ≡ 0
      at k (inl low) = get_or-take (b + 2) counts k 0 low ∙ span.before k (omega arith)
      at k (inr past) = get_or_past (take (b + 2) counts) k 0 (let short = length-take (b + 2) counts in omega arith)

  ends : (b : ℕ) → b ≤ last + 1 → ltb 0 (sum (drop (b - 1) counts)) ≡ true
  ends b le =
      let one = share_le (drop (b - 1) counts) (last - (b - 1)) in
      let same : get_or (drop (b - 1) counts) (last - (b - 1)) 0 ≡ get_or counts last 0 = get_or-drop (b - 1) counts (last - (b - 1)) 0 ∙ ap (λ k. get_or counts k 0) (let e : b - 1 + (last - (b - 1)) ≡ last = omega arith in e) in
      let some = span.ends in
      lt-ltb 0 (sum (drop (b - 1) counts)) (omega arith)

  no_more : (b : ℕ) → last + 1 < b → ltb 0 (sum (drop (b - 1) counts)) ≡ false
  no_more b lt =
      let none = sum-zeros (drop (b - 1) counts) (λ k inside. get_or-drop (b - 1) counts k 0 ∙ span.after (b - 1 + k) (omega arith)) in
      le-ltb 0 (sum (drop (b - 1) counts)) (omega arith)

  shown_between : (b : ℕ) → first ≤ b + 1 → b ≤ last + 1 → is_row counts b ≡ true
  shown_between b low high = ap (λ t. t && ltb 0 (sum (drop (b - 1) counts))) (starts b low) ∙ ends b high

  hidden_before : (b : ℕ) → b + 1 < first → is_row counts b ≡ false
  hidden_before b lt = ap (λ t. t && ltb 0 (sum (drop (b - 1) counts))) (not_yet b lt)

  hidden_after : (b : ℕ) → last + 1 < b → is_row counts b ≡ false
  hidden_after b lt = ap (λ t. ltb 0 (sum (take (b + 2) counts)) && t) (no_more b lt) ∙ and-false (ltb 0 (sum (take (b + 2) counts)))

-- ---- the rows

no_rows : (p : ℕ → Bool) (a : ℕ) (xs : List ℕ) → ((b : ℕ) → a ≤ b → b < a + length xs → p b ≡ false) → filter (λ row. p row.0) (enumerate_from a xs) ≡ []
no_rows p a [] none = refl
no_rows p a (x ∷ xs) none =
    ap (λ t. cond t ((a, x) ∷ filter (λ row. p row.0) (enumerate_from (a + 1) xs)) (filter (λ row. p row.0) (enumerate_from (a + 1) xs))) (none a (omega arith) (omega arith))
    ∙ no_rows p (a + 1) xs (λ b le lt. none b (omega arith) (omega arith))

-- the next n pass, and none after them
next_rows : (p : ℕ → Bool) (at : ℕ → ℕ) (a n : ℕ) (xs : List ℕ) → n ≤ length xs → ((i : ℕ) → i < length xs → get_or xs i 0 ≡ at (a + i))
    → ((b : ℕ) → a ≤ b → b < a + n → p b ≡ true) → ((b : ℕ) → a + n ≤ b → b < a + length xs → p b ≡ false)
    → filter (λ row. p row.0) (enumerate_from a xs) ≡ map (λ b. (b, at b)) (range_with_len a n)
next_rows p at a zero xs long is pass none = no_rows p a xs (λ b le lt. none b (omega arith) (omega arith))
next_rows p at a (suc n) [] long is pass none = absurd (omega arith)
next_rows p at a (suc n) (x ∷ xs) long is pass none =
    ap (λ t. cond t ((a, x) ∷ filter (λ row. p row.0) (enumerate_from (a + 1) xs)) (filter (λ row. p row.0) (enumerate_from (a + 1) xs))) (pass a (omega arith) (omega arith))
    ∙ ap (λ n. (a, n) ∷ filter (λ row. p row.0) (enumerate_from (a + 1) xs)) (is 0 (omega arith) ∙ ap at (let e : a + 0 ≡ a = omega arith in e))
    ∙ ap (λ l. (a, at a) ∷ l) (next_rows p at (a + 1) n xs (omega arith) (λ i lt. is (suc i) (omega arith) ∙ ap at (let e : a + suc i ≡ a + 1 + i = omega arith in e))
    (λ b le lt. pass b (omega arith) (omega arith)) (λ b le lt. none b (omega arith) (omega arith)))

-- k fail, the next n pass, and none after them
later_rows : (p : ℕ → Bool) (at : ℕ → ℕ) (k a n : ℕ) (xs : List ℕ) → k + n ≤ length xs → ((i : ℕ) → i < length xs → get_or xs i 0 ≡ at (a + i))
    → ((b : ℕ) → b < a + k → p b ≡ false) → ((b : ℕ) → a + k ≤ b → b < a + k + n → p b ≡ true) → ((b : ℕ) → a + k + n ≤ b → b < a + length xs → p b ≡ false)
    → filter (λ row. p row.0) (enumerate_from a xs) ≡ map (λ b. (b, at b)) (range_with_len (a + k) n)
later_rows p at zero a n xs long is fail pass none =
    next_rows p at a n xs (omega arith) is (λ b le lt. pass b (omega arith) (omega arith)) (λ b le lt. none b (omega arith) (omega arith))
    ∙ ap (λ s. map (λ b. (b, at b)) (range_with_len s n)) (let e : a ≡ a + 0 = omega arith in e)
later_rows p at (suc k) a n [] long is fail pass none = absurd (omega arith)
later_rows p at (suc k) a n (x ∷ xs) long is fail pass none =
    ap (λ t. cond t ((a, x) ∷ filter (λ row. p row.0) (enumerate_from (a + 1) xs)) (filter (λ row. p row.0) (enumerate_from (a + 1) xs))) (fail a (omega arith))
    ∙ later_rows p at k (a + 1) n xs (omega arith) (λ i lt. is (suc i) (omega arith) ∙ ap at (let e : a + suc i ≡ a + 1 + i = omega arith in e))
    (λ b lt. fail b (omega arith)) (λ b le lt. pass b (omega arith) (omega arith)) (λ b le lt. none b (omega arith) (omega arith))
    ∙ ap (λ s. map (λ b. (b, at b)) (range_with_len s n)) (let e : a + 1 + k ≡ a + suc k = omega arith in e)

-- each with its count
pub row_at : List ℕ → ℕ → ℕ × ℕ
row_at counts b = (b, get_or counts b 0)

pub row_is : (counts : List ℕ) (b : ℕ) → (b, get_or counts b 0) ≡ row_at counts b
unfolding row_at
row_is counts b = refl

pub rows_are : (h : Histogram) (first last end : ℕ) → IsSpan h.counts first last → end ≡ min (last + 2) (length h.counts)
    → rows h ≡ map (row_at h.counts) (range_with_len (first - 1) (end - (first - 1)))
unfolding row_at
rows_are h first last end span is =
    let up = ordered h.counts first last span in
    let inside = last_within h.counts first last span in
    later_rows (is_row h.counts) (λ b. get_or h.counts b 0) (first - 1) 0 (end - (first - 1)) h.counts (omega arith) (λ i lt. ap (λ k. get_or h.counts k 0) (let e : i ≡ 0 + i = omega arith in e))
    (λ b lt. hidden_before h.counts first last span b (omega arith))
    (λ b le lt. shown_between h.counts first last span b (omega arith) (omega arith))
    (λ b le lt. hidden_after h.counts first last span b (omega arith))
    ∙ ap (λ s. map (λ b. (b, get_or h.counts b 0)) (range_with_len s (end - (first - 1)))) (let e : 0 + (first - 1) ≡ first - 1 = omega arith in e)

pub rows-none : (h : Histogram) → sum h.counts ≡ 0 → rows h ≡ []
rows-none h none = no_rows (is_row h.counts) 0 h.counts (λ b le lt.
    let few = sum_by-take-le (λ n. n) h.counts (b + 2) in
    ap (λ t. t && ltb 0 (sum (drop (b - 1) h.counts))) (le-ltb 0 (sum (take (b + 2) h.counts)) (omega arith)))

-- one more row
pub rows_more : (row : ℕ × ℕ → List ℕ) (counts : List ℕ) (start b : ℕ) → start ≤ b
    → flat_map row (map (row_at counts) (range_with_len start (b + 1 - start))) ≡ flat_map row (map (row_at counts) (range_with_len start (b - start))) ++ row (row_at counts b)
rows_more row counts start b le =
    ap (λ n. flat_map row (map (row_at counts) (range_with_len start n))) (let e : b + 1 - start ≡ b - start + 1 = omega arith in e)
    ∙ ap (flat_map row) (map-range_with_len_more (row_at counts) start (b - start) b (omega arith))
    ∙ sym (flat_map_more row [] (map (row_at counts) (range_with_len start (b - start))) (row_at counts b))
