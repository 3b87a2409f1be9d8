-- Values of lists joined, and of lists with one more argument.
use Rattle.std.proofs.Common.{◌≡◌, ◌≢◌, ◌≤◌, ℕ, ◌+◌, List, [], ◌∷◌, ◌++◌, length, refl, sym, ap}
use Rattle.std.proofs.Common.{◌∙◌, subst, arith, rules, length-append, sum, Some, None}
use Rattle.std.specs.List.{range_with_len}
use Rattle.std.specs.Prelude.{ℤ, ◌+ℤ◌, ◌≤ℤ◌, ◌<ℤ◌}
use Rattle.std.specs.Int.{int_wrap, int_min, int_max}
use mir.Syntax.{w64}
use Rattle.std.proofs.lemmas.Int.{ints, clamps, int_wrap-add_left, int_wrap-add_right, by_lt_z}
use Rattle.std.proofs.lemmas.List.Elements.{All-append, All-weaker, All-cons, All-nil}
use Rattle.std.proofs.lemmas.List.Elements.{Contains-append_left, Contains-append_right}
use Rattle.aggregations.specs.Vocabulary.{AggFn, Count, Sum, Min, Max, Avg, Quantize, Lquantize}
use Rattle.aggregations.specs.Vocabulary.{Scale, Powers, Steps}
use Rattle.aggregations.specs.declared.held.Held.{Held}
use Rattle.aggregations.specs.declared.held.Held.TheVariants.{Counted, Summed, Least, Greatest}
use Rattle.aggregations.specs.declared.held.Held.TheVariants.{Mean, Counts}
use Rattle.aggregations.specs.Histograms.{Histogram, histogram_of}
use Rattle.aggregations.specs.Buckets.{buckets, counts_of, scale_of}
use Rattle.aggregations.specs.Values.{total, IsValue, count_in}
use Rattle.aggregations.proofs.HistogramLemmas.{none_used}
use Rattle.aggregations.proofs.Measures.{IsSum, IsLeast, IsGreatest}
use Rattle.aggregations.specs.Steps.Values.{TakesOne, TakesBoth}
use Rattle.aggregations.specs.Steps.Held.{after, count_of, number_of}
use Rattle.aggregations.specs.Figures.{figure_of, histogram_in}
use Rattle.std.proofs.lemmas.Option.{same_Some}

pub total-append : (xs ys : List ℤ) → total (xs ++ ys) ≡ total xs +ℤ total ys
total-append [] ys = omega (arith, ints)
total-append (x ∷ xs) ys = let more = total-append xs ys in omega (arith, ints)

sum_joined : (s t : ℤ) (xs ys : List ℤ) → IsSum s xs → IsSum t ys → IsSum (int_wrap w64 (s +ℤ t)) (xs ++ ys)
sum_joined s t xs ys a b =
    ap (λ z. int_wrap w64 (z +ℤ t)) a ∙ int_wrap-add_left w64 (total xs) t ∙ ap (λ z. int_wrap w64 (total xs +ℤ z)) b
    ∙ int_wrap-add_right w64 (total xs) (total ys) ∙ ap (int_wrap w64) (sym (total-append xs ys))

pub least_joined : (m n : ℤ) (xs ys : List ℤ) → IsLeast m xs → IsLeast n ys → IsLeast (int_min m n) (xs ++ ys)
least_joined m n xs ys a b = by_lt_z n m
    (λ (lt : n <ℤ m). let is : int_min m n ≡ n = omega (arith, ints, clamps) in
    subst (λ z. IsLeast z (xs ++ ys)) (sym is) (Contains-append_right xs ys n b.0, All-append (λ x. n ≤ℤ x) xs ys (All-weaker (λ x. m ≤ℤ x) (λ x. n ≤ℤ x) (λ x h. omega (arith, ints)) xs a.1) b.1))
    (λ (le : m ≤ℤ n). let is : int_min m n ≡ m = omega (arith, ints, clamps) in
    subst (λ z. IsLeast z (xs ++ ys)) (sym is) (Contains-append_left xs ys m a.0, All-append (λ x. m ≤ℤ x) xs ys a.1 (All-weaker (λ x. n ≤ℤ x) (λ x. m ≤ℤ x) (λ x h. omega (arith, ints)) ys b.1)))

pub greatest_joined : (m n : ℤ) (xs ys : List ℤ) → IsGreatest m xs → IsGreatest n ys → IsGreatest (int_max m n) (xs ++ ys)
greatest_joined m n xs ys a b = by_lt_z m n
    (λ (lt : m <ℤ n). let is : int_max m n ≡ n = omega (arith, ints, clamps) in
    subst (λ z. IsGreatest z (xs ++ ys)) (sym is) (Contains-append_right xs ys n b.0, All-append (λ x. x ≤ℤ n) xs ys (All-weaker (λ x. x ≤ℤ m) (λ x. x ≤ℤ n) (λ x h. omega (arith, ints)) xs a.1) b.1))
    (λ (le : n ≤ℤ m). let is : int_max m n ≡ m = omega (arith, ints, clamps) in
    subst (λ z. IsGreatest z (xs ++ ys)) (sym is) (Contains-append_left xs ys m a.0, All-append (λ x. x ≤ℤ m) xs ys a.1 (All-weaker (λ x. x ≤ℤ n) (λ x. x ≤ℤ m) (λ x h. omega (arith, ints)) ys b.1)))

one_least : (x : ℤ) → IsLeast x (x ∷ [])
one_least x = ((0, omega arith, refl), All-cons (λ y. x ≤ℤ y) x [] (omega (arith, ints)) (All-nil (λ y. x ≤ℤ y)))

one_greatest : (x : ℤ) → IsGreatest x (x ∷ [])
one_greatest x = ((0, omega arith, refl), All-cons (λ y. y ≤ℤ x) x [] (omega (arith, ints)) (All-nil (λ y. y ≤ℤ x)))

-- ---- one more argument, by what is held

sum_noted : (s x : ℤ) (xs : List ℤ) → IsSum s xs → IsSum (int_wrap w64 (s +ℤ x)) (xs ++ x ∷ [])
sum_noted s x xs a =
    let t = total-append xs (x ∷ []) in
    let e : total xs +ℤ x ≡ total (xs ++ x ∷ []) = omega (arith, ints) in
    ap (λ z. int_wrap w64 (z +ℤ x)) a ∙ int_wrap-add_left w64 (total xs) x ∙ ap (int_wrap w64) e

pub counts_noted : (h new : Histogram) (x : ℤ)
    → ((scale : Scale) (args : List ℤ) → h ≡ histogram_of scale args → new ≡ histogram_of scale (args ++ x ∷ [])) → TakesOne (Counts h) x (Counts new)
counts_noted h new x step Quantize xs is = step Powers xs is
counts_noted h new x step (Lquantize r) xs is = step (Steps r) xs is
counts_noted h new x step _ xs is = absurd is

-- a function with a scale makes histograms
pub scaled_value : (f : AggFn) (scale : Scale) (h : Histogram) (args : List ℤ) → scale_of f ≡ Some scale → h ≡ histogram_of scale args → IsValue f (Counts h) args
scaled_value Quantize scale h args e is = is ∙ ap (λ s. histogram_of s args) (sym (same_Some Powers scale e))
scaled_value (Lquantize r) scale h args e is = is ∙ ap (λ s. histogram_of s args) (sym (same_Some (Steps r) scale e))
scaled_value _ scale h args e is = absurd cc

-- a histogram without arguments holds no counts
pub sum_none : (f : Scale) → sum (counts_of f []) ≡ 0
sum_none f = none_used (range_with_len 0 (buckets f))

-- ---- lists joined, by what is held

pub counts_joined : (h more new : Histogram)
    → ((scale : Scale) (xs ys : List ℤ) → h ≡ histogram_of scale xs → more ≡ histogram_of scale ys → new ≡ histogram_of scale (xs ++ ys)) → TakesBoth (Counts h) (Counts more) (Counts new)
counts_joined h more new step Quantize xs ys a b = step Powers xs ys a b
counts_joined h more new step (Lquantize r) xs ys a b = step (Steps r) xs ys a b
counts_joined h more new step _ xs ys a b = absurd a

-- the histogram that is held
pub held_histogram : (held : Held) (h : Histogram) → histogram_in (figure_of held) ≡ Some h → held ≡ Counts h
held_histogram held h is = grind arith

pub only_counts : (h : Histogram) (other new : Held) → histogram_in (figure_of other) ≡ None → TakesBoth (Counts h) other new
only_counts h (Counts x) new none f xs ys a b = cc
only_counts h _ new none Quantize xs ys a b = absurd b
only_counts h _ new none (Lquantize r) xs ys a b = absurd b
only_counts h _ new none _ xs ys a b = absurd a

-- ---- what is held after more, where that is no histogram

pub one_after : (p : Held) (x : ℤ) → ((h : Histogram) → p ≡ Counts h → ⊥) → TakesOne p x (after p x 1)
one_after (Counts h) x number f xs is = absurd (number h refl)
one_after (Counted n) x number Count xs is = simp length-append (omega arith)
one_after (Summed s) x number Sum xs is = sum_noted s x xs is
one_after (Least m) x number Min xs is = least_joined m x xs (x ∷ []) is (one_least x)
one_after (Greatest m) x number Max xs is = greatest_joined m x xs (x ∷ []) is (one_greatest x)
one_after (Mean m) x number Avg xs is = (sum_noted m.sum x xs is.0, let h = is.1 in simp length-append (omega arith))
one_after _ x number _ xs is = absurd is

pub both_after : (p q : Held) → ((h : Histogram) → p ≡ Counts h → ⊥) → TakesBoth p q (after p (number_of q) (count_of q))
both_after (Counts h) q number f xs ys a b = absurd (number h refl)
both_after (Counted n) (Counted m) number Count xs ys a b = simp length-append (omega arith)
both_after (Summed s) (Summed t) number Sum xs ys a b = sum_joined s t xs ys a b
both_after (Least m) (Least n) number Min xs ys a b = least_joined m n xs ys a b
both_after (Greatest m) (Greatest n) number Max xs ys a b = greatest_joined m n xs ys a b
both_after (Mean m) (Mean n) number Avg xs ys a b = (sum_joined m.sum n.sum xs ys a.0 b.0, let x = a.1 in let y = b.1 in simp length-append (omega arith))
both_after _ _ number _ xs ys a b = absurd (search rules)

pub count_after : (p : Held) (x : ℤ) (k : ℕ) → count_in (after p x k) ≤ count_in p + k
count_after p x k = grind arith

-- ---- there is a value

least_exists : (x : ℤ) (xs : List ℤ) → (m : ℤ) × IsLeast m (x ∷ xs)
least_exists x [] = (x, one_least x)
least_exists x (y ∷ ys) = let rest = least_exists y ys in
    (int_min x rest.0, least_joined x rest.0 (x ∷ []) (y ∷ ys) (one_least x) rest.1)

greatest_exists : (x : ℤ) (xs : List ℤ) → (m : ℤ) × IsGreatest m (x ∷ xs)
greatest_exists x [] = (x, one_greatest x)
greatest_exists x (y ∷ ys) = let rest = greatest_exists y ys in
    (int_max x rest.0, greatest_joined x rest.0 (x ∷ []) (y ∷ ys) (one_greatest x) rest.1)

pub value_exists : (f : AggFn) (args : List ℤ) → args ≢ [] → (held : Held) × IsValue f held args
value_exists f [] some = absurd (some refl)
value_exists Count (x ∷ xs) some = (Counted (length (x ∷ xs)), refl)
value_exists Sum (x ∷ xs) some = (Summed (int_wrap w64 (total (x ∷ xs))), refl)
value_exists Min (x ∷ xs) some = let least = least_exists x xs in (Least least.0, least.1)
value_exists Max (x ∷ xs) some = let greatest = greatest_exists x xs in (Greatest greatest.0, greatest.1)
value_exists Avg (x ∷ xs) some = (Mean (record { sum = int_wrap w64 (total (x ∷ xs)); count = length (x ∷ xs) }), (refl, refl))
value_exists Quantize (x ∷ xs) some = (Counts (histogram_of Powers (x ∷ xs)), refl)
value_exists (Lquantize r) (x ∷ xs) some = (Counts (histogram_of (Steps r) (x ∷ xs)), refl)
