-- Histograms: counts from the buckets that were used, and what one more argument changes.
use Rattle.std.proofs.Common.{◌≡◌, ℕ, ◌+◌, ◌<◌, ◌≤◌, ◌^◌, ◌==◌, cond, List, [], ◌∷◌, ◌++◌, Some}
use Rattle.std.proofs.Common.{Option, None, refl, sym, ap, ◌∙◌, subst, ⊎_elim, arith, map, set}
use Rattle.std.proofs.Common.{get_or, length, count_by, eq-eqb, zero-add, sum}
use Rattle.std.specs.List.{IsDistinct, range_with_len}
use Rattle.std.specs.Map.{keys_of, lookup, values_of}
use Rattle.std.specs.Prelude.{ℤ, nat_eq}
use Rattle.std.specs.Option.{unwrap_or}
use Rattle.std.proofs.lemmas.Bool.{cases_lt}
use Rattle.std.proofs.lemmas.Bool.Decides.{nat_tests}
use Rattle.std.proofs.lemmas.Cmp.{nat_eq_equiv}
use Rattle.std.proofs.lemmas.Grind.{common_steps}
use Rattle.std.proofs.lemmas.List.{get_or_past, length-set}
use Rattle.std.proofs.lemmas.List.FromFn.{fill_by_all, get_or-map-range_with_len}
use Rattle.std.proofs.lemmas.List.FromFn.{length-map-range_with_len}
use Rattle.std.proofs.lemmas.Map.{lookup-none}
use Rattle.std.proofs.lemmas.Map.Entries.{none_past_head}
use Rattle.std.proofs.lemmas.Map.Keys.{IsDistinct-tail}
use Rattle.std.proofs.lemmas.List.Sums.{sum_by_push, sum_by-append, sum_by-cons, sum_by-set}
use Rattle.aggregations.specs.Vocabulary.{Scale}
use Rattle.aggregations.specs.Buckets.{buckets, is_in}
use Rattle.aggregations.specs.Histograms.{AreUsed, Histogram, histogram_of, used_at, counts_used}
use Rattle.aggregations.specs.Steps.Histograms.{with_more}

-- ---- a list of what g is at each number below n

pub table_at : (g : ℕ → ℕ) (n b : ℕ) → b < n → get_or (map g (range_with_len 0 n)) b 0 ≡ g b
table_at g n b lt = get_or-map-range_with_len g 0 n b b 0 lt (zero-add b)

pub table_long : (g : ℕ → ℕ) (n : ℕ) → length (map g (range_with_len 0 n)) ≡ n
table_long g n = length-map-range_with_len g 0 n

more_there : (xs : List ℕ) (k b m : ℕ) → k < length xs → get_or (set xs k (get_or xs k 0 + m)) b 0 ≡ get_or xs b 0 + cond (b == k) m 0
more_there xs k b m within = grind (arith, common_steps)

-- g is f with more at k
more_at : (f g : ℕ → ℕ) (n k m : ℕ) → k < n → ((b : ℕ) → b < n → g b ≡ f b + cond (b == k) m 0)
    → map g (range_with_len 0 n) ≡ set (map f (range_with_len 0 n)) k (get_or (map f (range_with_len 0 n)) k 0 + m)
more_at f g n k m within more =
    let xs = map f (range_with_len 0 n) in
    let long = table_long f n in
    sym (fill_by_all g (set xs k (get_or xs k 0 + m)) n 0 (length-set xs k (get_or xs k 0 + m) ∙ long)
    (λ b lt. more_there xs k b m (omega (arith, long)) ∙ ap (λ a. a + cond (b == k) m 0) (table_at f n b lt) ∙ sym (more b lt)))

-- ---- the buckets that were used

abbrev pub seen : Scale → List ℕ → Histogram
seen f counts = record { scale = f; counts = counts }

-- a bucket gets more
pub put_used : (f : Scale) (old new : List (ℕ × ℕ)) (k more : ℕ) → k < buckets f
    → ((q : ℕ) → lookup (nat_eq q) new ≡ cond (nat_eq k q) (Some (used_at old k + more)) (lookup (nat_eq q) old))
    → seen f (counts_used f new) ≡ with_more (seen f (counts_used f old)) k more
put_used f old new k more within up =
    ap (seen f) (more_at (used_at old) (used_at new) (buckets f) k more within (λ b lt. put_there b))
  where
    put_there : (b : ℕ) → used_at new b ≡ used_at old b + cond (b == k) more 0
    put_there b = grind (arith, nat_tests, up b)

-- one more argument
pub histogram_noted : (f : Scale) (h new : Histogram) (k : ℕ) (x : ℤ) (args : List ℤ) → k < buckets f
    → ((b : ℕ) → b < buckets f → is_in f b x ≡ (b == k)) → h ≡ histogram_of f args → new ≡ with_more h k 1
    → new ≡ histogram_of f (args ++ x ∷ [])
histogram_noted f h new k x args within only was is =
    is ∙ ap (λ h. with_more h k 1) was
    ∙ sym (ap (seen f) (more_at (λ b. count_by (is_in f b) args) (λ b. count_by (is_in f b) (args ++ x ∷ [])) (buckets f) k 1 within
    (λ b lt. sum_by_push (λ y. cond (is_in f b y) 1 0) args x ∙ ap (λ t. count_by (is_in f b) args + cond t 1 0) (only b lt))))

-- ---- what is kept

pub kept_front : (f : Scale) (k m : ℕ) (rest : List (ℕ × ℕ)) → AreUsed f ((k, m) ∷ rest) → (k < buckets f) × (0 < m)
kept_front f k m rest kept = kept.each k m (ap (λ t. cond t (Some m) (lookup (nat_eq k) rest)) (eq-eqb k k refl))

pub gone_after : (f : Scale) (k m : ℕ) (rest : List (ℕ × ℕ)) → AreUsed f ((k, m) ∷ rest) → lookup (nat_eq k) rest ≡ None
gone_after f k m rest kept = lookup-none (nat_eq k) rest (none_past_head nat_eq_equiv k (k, m) rest kept.apart (eq-eqb k k refl))

front_there : (f : Scale) (k m : ℕ) (rest : List (ℕ × ℕ)) → AreUsed f ((k, m) ∷ rest) → (b : ℕ) → used_at ((k, m) ∷ rest) b ≡ used_at rest b + cond (b == k) m 0
front_there f k m rest kept b = let gone = gone_after f k m rest kept in grind (arith, nat_tests)

-- the counts with one more bucket
pub counts_front : (f : Scale) (k m : ℕ) (rest : List (ℕ × ℕ)) → AreUsed f ((k, m) ∷ rest)
    → counts_used f ((k, m) ∷ rest) ≡ set (counts_used f rest) k (get_or (counts_used f rest) k 0 + m)
counts_front f k m rest kept =
    more_at (used_at rest) (used_at ((k, m) ∷ rest)) (buckets f) k m (kept_front f k m rest kept).0 (λ b lt. front_there f k m rest kept b)

sum_more : (xs : List ℕ) (k more : ℕ) → k < length xs → sum (set xs k (get_or xs k 0 + more)) ≡ sum xs + more
sum_more xs k more within = let s = sum_by-set (λ n. n) xs k (get_or xs k 0 + more) 0 within in omega arith

pub within_counts : (f : Scale) (used : List (ℕ × ℕ)) (k : ℕ) → k < buckets f → k < length (counts_used f used)
within_counts f used k lt = let long = table_long (used_at used) (buckets f) in omega arith

pub sum-front : (f : Scale) (k m : ℕ) (rest : List (ℕ × ℕ)) → AreUsed f ((k, m) ∷ rest)
    → sum (counts_used f ((k, m) ∷ rest)) ≡ sum (counts_used f rest) + m
sum-front f k m rest kept =
    ap sum (counts_front f k m rest kept) ∙ sum_more (counts_used f rest) k m (within_counts f rest k (kept_front f k m rest kept).0)

pub kept_rest : (f : Scale) (k m : ℕ) (rest : List (ℕ × ℕ)) → AreUsed f ((k, m) ∷ rest) → AreUsed f rest
kept_rest f k m rest kept = record {
  apart = IsDistinct-tail nat_eq k (keys_of rest) kept.apart;
  each = λ b n there. let gone = gone_after f k m rest kept in let each = kept.each b n in grind (arith, nat_tests);
  few = let front = sum-front f k m rest kept in let few = kept.few in omega arith;
}

pub none_used : (bs : List ℕ) → sum (map (used_at []) bs) ≡ 0
none_used [] = refl
none_used (b ∷ bs) = let more = none_used bs in let e = sum_by-cons (λ x. x) 0 (map (used_at []) bs) in omega arith

-- all counts are those of the buckets that were used
pub sum_used : (f : Scale) (used : List (ℕ × ℕ)) → AreUsed f used → sum (counts_used f used) ≡ sum (values_of used)
sum_used f [] kept = none_used (range_with_len 0 (buckets f))
sum_used f ((k, m) ∷ rest) kept =
    let front = sum-front f k m rest kept in
    let more = sum_used f rest (kept_rest f k m rest kept) in
    let e = sum_by-cons (λ x. x) m (values_of rest) in
    omega arith

pub kept_none : (f : Scale) → AreUsed f []
unfolding IsDistinct
kept_none f = record {
  apart = tt;
  each = λ b m there. absurd cc;
  few = let none = none_used (range_with_len 0 (buckets f)) in omega arith;
}

-- what is kept for a bucket is its count, and past the last bucket nothing is
pub count_kept : (f : Scale) (used : List (ℕ × ℕ)) (b : ℕ) → AreUsed f used → get_or (counts_used f used) b 0 ≡ used_at used b
count_kept f used b kept = ⊎_elim (λ (lt : b < buckets f). table_at (used_at used) (buckets f) b lt)
    (λ (le : buckets f ≤ b). get_or_past (counts_used f used) b 0 (subst (λ n. n ≤ b) (sym (table_long (used_at used) (buckets f))) le) ∙ sym (nothing (lookup (nat_eq b) used) refl le))
    (cases_lt b (buckets f))
  where
    nothing : (o : Option ℕ) → lookup (nat_eq b) used ≡ o → buckets f ≤ b → unwrap_or o 0 ≡ 0
    nothing None e le = refl
    nothing (Some m) e le = let h = kept.each b m e in absurd (omega arith)

pub kept_put : (f : Scale) (old new : List (ℕ × ℕ)) (k more : ℕ) → k < buckets f → 0 < more → AreUsed f old → sum (counts_used f old) + more ≤ 2 ^ 52
    → ((q : ℕ) → lookup (nat_eq q) new ≡ cond (nat_eq k q) (Some (used_at old k + more)) (lookup (nat_eq q) old))
    → IsDistinct nat_eq (keys_of new) → AreUsed f new
kept_put f old new k more within some was room up apart = record {
  apart = apart;
  each = λ q n there. let up = up q in let each = was.each q n in grind (arith, nat_tests);
  few =
      let sums = sum_more (counts_used f old) k more (within_counts f old k within) in
      let e = ap (λ h. sum h.counts) (put_used f old new k more within up) in
      omega arith;
}

pub count-le_sum : (f : Scale) (used : List (ℕ × ℕ)) (b : ℕ) → AreUsed f used → used_at used b ≤ sum (counts_used f used)
count-le_sum f used b kept = subst (λ n. n ≤ sum (counts_used f used)) (count_kept f used b kept) (at_most (counts_used f used))
  where
    at_most : (xs : List ℕ) → get_or xs b 0 ≤ sum xs
    at_most xs = grind (arith, common_steps)

-- ---- two histograms

-- `first` takes `other`, and is `now`, with the buckets `rest` of `other` still to come
pub record Joining (first other : Histogram) (rest : List (ℕ × ℕ)) (now : Histogram) : Type 0 where
  pub scale : now.scale ≡ first.scale
  pub many : buckets first.scale ≡ buckets other.scale
  pub length : length now.counts ≡ buckets other.scale
  pub are : AreUsed other.scale rest
  pub counts : (b : ℕ) → b < buckets other.scale → get_or now.counts b 0 + used_at rest b ≡ get_or first.counts b 0 + get_or other.counts b 0
  pub held : sum now.counts + sum (counts_used other.scale rest) ≡ sum first.counts + sum other.counts

pub joining_start : (f g : Scale) (used all : List (ℕ × ℕ)) → buckets f ≡ buckets g → AreUsed g all
    → Joining (seen f (counts_used f used)) (seen g (counts_used g all)) all (seen f (counts_used f used))
joining_start f g used all many kept = record {
  scale = refl;
  many = many;
  length = table_long (used_at used) (buckets f) ∙ many;
  are = kept;
  counts = λ b lt. ap (λ n. get_or (counts_used f used) b 0 + n) (sym (table_at (used_at all) (buckets g) b lt));
  held = refl;
}

pub joining_more : (first other now : Histogram) (rest : List (ℕ × ℕ)) (k m : ℕ) → Joining first other ((k, m) ∷ rest) now → Joining first other rest (with_more now k m)
joining_more first other now rest k m j =
    let within : k < length now.counts = let lt = (kept_front other.scale k m rest j.are).0 in let long = j.length in omega arith in
    record {
      scale = j.scale;
      many = j.many;
      length = length-set now.counts k (get_or now.counts k 0 + m) ∙ j.length;
      are = kept_rest other.scale k m rest j.are;
      counts = λ b lt.
          let more = more_there now.counts k b m within in
          let front = front_there other.scale k m rest j.are b in
          let was = j.counts b lt in
          omega (arith, more, front, was);
      held =
          let more = sum_more now.counts k m within in
          let front = sum-front other.scale k m rest j.are in
          let was = j.held in
          omega arith;
    }

-- the room for the front bucket
pub joining_room : (first other now : Histogram) (rest : List (ℕ × ℕ)) (k m : ℕ) → Joining first other ((k, m) ∷ rest) now → sum now.counts + m ≤ sum first.counts + sum other.counts
joining_room first other now rest k m j = let front = sum-front other.scale k m rest j.are in let all = j.held in omega arith

pub joining_all : (f : Scale) (now : Histogram) (xs ys : List ℤ) → Joining (histogram_of f xs) (histogram_of f ys) [] now → now ≡ histogram_of f (xs ++ ys)
joining_all f now xs ys j =
    ap (λ g. seen g now.counts) j.scale
    ∙ ap (seen f) (fill_by_all (λ b. count_by (is_in f b) (xs ++ ys)) now.counts (buckets f) 0 j.length (λ b lt.
    let sums = j.counts b lt in
    let one = table_at (λ b. count_by (is_in f b) xs) (buckets f) b lt in
    let two = table_at (λ b. count_by (is_in f b) ys) (buckets f) b lt in
    let both = sum_by-append (λ y. cond (is_in f b y) 1 0) xs ys in
    omega (arith, sums, one, two, both)))
