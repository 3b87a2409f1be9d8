-- What a table stands for doesn't depend on the order of the contributions.
use Rattle.std.proofs.Common.{◌≡◌, ℕ, ◌+◌, ◌<◌, true, false, cond, List, [], ◌∷◌, length, get_or}
use Rattle.std.proofs.Common.{All, Contains, sum_by, Option, None, Some, refl, sym, ap, ◌∙◌, ⊎_elim}
use Rattle.std.proofs.Common.{zero-add, arith, map, filter}
use Rattle.std.specs.Prelude.{ℤ, pos, ◌+ℤ◌, ◌≤ℤ◌, slice_get}
use borrow.Author.Differences.{down, up}
use Rattle.std.specs.List.{range_with_len}
use Rattle.std.specs.Ordering.{int_eq}
use Rattle.std.proofs.lemmas.Bool.Decides.{Decides-int_eq}
use Rattle.std.proofs.lemmas.Cmp.{int_eq_equiv}
use Rattle.std.specs.Int.{int_wrap}
use mir.Syntax.{w64}
use Rattle.std.proofs.lemmas.Int.{ints}
use Rattle.std.proofs.lemmas.Bool.{cases_Bool}
use Rattle.std.proofs.lemmas.List.{nil_from_length}
use Rattle.std.proofs.lemmas.List.Elements.{All-contains, All-contains_itself, All-weaker}
use Rattle.std.proofs.lemmas.List.Elements.{Contains-append_right}
use Rattle.std.proofs.lemmas.List.Sums.{sum_by-cons, get_or-le-sum_by}
use Rattle.aggregations.specs.Vocabulary.{AggFn, Count, Sum, Min, Max, Avg, Quantize, Lquantize}
use Rattle.aggregations.specs.Vocabulary.{Scale, Powers, Steps, KeyPart}
use Rattle.aggregations.specs.declared.held.Held.{Held}
use Rattle.aggregations.specs.declared.held.Held.TheVariants.{Counted, Summed, Least, Greatest}
use Rattle.aggregations.specs.declared.held.Held.TheVariants.{Mean, Counts}
use Rattle.aggregations.specs.Buckets.{buckets, is_in, counts_of}
use Rattle.aggregations.specs.Values.{total, IsValue}
use Rattle.aggregations.proofs.Measures.{is_for, IsSum}
use Rattle.aggregations.specs.Table.{Contribution, Aggregation, SameItems, arguments_of, entry_at}
use Rattle.aggregations.specs.Table.{IsEntry, HasEntry, StandsFor}
use Rattle.aggregations.proofs.HistogramLemmas.{seen}

ones : {A : Type 0} (xs : List A) → sum_by (λ x. 1) xs ≡ length xs
ones [] = refl
ones (x ∷ xs) = let here = sum_by-cons (λ x. 1) x xs in let more = ones xs in omega arith

pub same_length : {A : Type 0} (xs ys : List A) → SameItems xs ys → length xs ≡ length ys
same_length xs ys same = sym (ones xs) ∙ same (λ x. 1) ∙ ones ys

-- a total, by what is above zero and what is below
totals : (xs : List ℤ) → total xs +ℤ pos (sum_by down xs) ≡ pos (sum_by up xs)
totals [] = omega (arith, ints)
totals (x ∷ xs) =
    let below = sum_by-cons down x xs in
    let above = sum_by-cons up x xs in
    let more = totals xs in
    omega (arith, ints)

same_total : (xs ys : List ℤ) → SameItems xs ys → total xs ≡ total ys
same_total xs ys same =
    let one = totals xs in
    let other = totals ys in
    let below = same down in
    let above = same up in
    omega (arith, ints)

-- membership and a bound, as sums
hits : ℤ → ℤ → ℕ
hits m y = cond (int_eq y m) 1 0

contains_from_sum : (m : ℤ) (xs : List ℤ) → 0 < sum_by (hits m) xs → Contains xs m
unfolding hits
contains_from_sum m [] h = absurd (omega arith)
contains_from_sum m (x ∷ xs) h = ⊎_elim
    (λ (e : int_eq x m ≡ true). (0, omega arith, (Decides-int_eq x m).0 e))
    (λ (e : int_eq x m ≡ false). Contains-append_right (x ∷ []) xs m (contains_from_sum m xs
    (let none : hits m x ≡ 0 = ap (λ b. cond b 1 0) e in let rest = sum_by-cons (hits m) x xs in omega arith)))
    (cases_Bool (int_eq x m))

sum_from_contains : (m : ℤ) (xs : List ℤ) → Contains xs m → 0 < sum_by (hits m) xs
unfolding hits
sum_from_contains m xs h =
    let le = get_or-le-sum_by (hits m) xs h.0 m h.1 in
    let one : hits m (get_or xs h.0 m) ≡ 1 = ap (hits m) h.2 ∙ ap (λ b. cond b 1 0) (int_eq_equiv.refl m) in
    omega arith

pub same_contains : (m : ℤ) (xs ys : List ℤ) → SameItems xs ys → Contains xs m → Contains ys m
same_contains m xs ys same h = contains_from_sum m ys (let a = sum_from_contains m xs h in let b = same (hits m) in omega arith)

-- what holds of each item
same_all : (P : ℤ → Type 0) (xs ys : List ℤ) → SameItems xs ys → All P xs → All P ys
same_all P xs ys same all =
    All-weaker (Contains ys) P (λ y there. All-contains P xs y all (same_contains y ys xs (λ weight. sym (same weight)) there)) ys (All-contains_itself ys)

same_picked : (P : ℤ → Type 0) (m : ℤ) (xs ys : List ℤ) → SameItems xs ys → Contains xs m × All P xs → Contains ys m × All P ys
same_picked P m xs ys same h = (same_contains m xs ys same h.0, same_all P xs ys same h.1)

pub same_sum : (s : ℤ) (xs ys : List ℤ) → SameItems xs ys → IsSum s xs → IsSum s ys
same_sum s xs ys same h = h ∙ ap (int_wrap w64) (same_total xs ys same)

same_counts : (f : Scale) (xs ys : List ℤ) → SameItems xs ys → counts_of f xs ≡ counts_of f ys
same_counts f xs ys same i = map (λ b. same (λ x. cond (is_in f b x) 1 0) i) (range_with_len 0 (buckets f))

-- no value depends on the order
pub same_value : (f : AggFn) (p : Held) (xs ys : List ℤ) → SameItems xs ys → IsValue f p xs → IsValue f p ys
same_value Count (Counted n) xs ys same h = h ∙ same_length xs ys same
same_value Sum (Summed s) xs ys same h = same_sum s xs ys same h
same_value Min (Least m) xs ys same h = same_picked (λ x. m ≤ℤ x) m xs ys same h
same_value Max (Greatest m) xs ys same h = same_picked (λ x. x ≤ℤ m) m xs ys same h
same_value Avg (Mean m) xs ys same h = (same_sum m.sum xs ys same h.0, h.1 ∙ same_length xs ys same)
same_value Quantize (Counts h) xs ys same is = is ∙ ap (seen Powers) (same_counts Powers xs ys same)
same_value (Lquantize r) (Counts h) xs ys same is = is ∙ ap (seen (Steps r)) (same_counts (Steps r) xs ys same)
same_value _ _ xs ys same h = absurd h

pub same_entry : (f : AggFn) (o : Option Held) (xs ys : List ℤ) → SameItems xs ys → IsEntry f o xs → IsEntry f o ys
same_entry f None xs ys same h = nil_from_length ys (let e = same_length xs ys same in let z = ap length h in omega arith)
same_entry f (Some p) xs ys same h = ((λ e. h.0 (nil_from_length xs (let n = same_length xs ys same in let z = ap length e in omega arith))), same_value f p xs ys same h.1)

arguments_sum : (h : ℤ → ℕ) (agg : ℕ) (key : List KeyPart) (xs : List Contribution) → sum_by h (arguments_of agg key xs) ≡ sum_by (λ c. cond (is_for agg key c) (h c.arg) 0) xs
arguments_sum h agg key [] = refl
arguments_sum h agg key (c ∷ cs) =
    let more = arguments_sum h agg key cs in
    (elim (is_for agg key c) as (λ b. sum_by h (map (λ c. c.arg) (cond b (c ∷ filter (is_for agg key) cs) (filter (is_for agg key) cs))) ≡ cond b (h c.arg) 0 + sum_by (λ c. cond (is_for agg key c) (h c.arg) 0) cs) [
      | true ↦ sum_by-cons h c.arg (arguments_of agg key cs) ∙ ap (λ n. h c.arg + n) more
      | false ↦ more ∙ sym (zero-add (sum_by (λ c. cond (is_for agg key c) (h c.arg) 0) cs))
    ]) ∙ sym (sum_by-cons (λ c. cond (is_for agg key c) (h c.arg) 0) c cs)

pub same_arguments : (agg : ℕ) (key : List KeyPart) (xs ys : List Contribution) → SameItems xs ys → SameItems (arguments_of agg key xs) (arguments_of agg key ys)
same_arguments agg key xs ys same h = arguments_sum h agg key xs ∙ same (λ c. cond (is_for agg key c) (h c.arg) 0) ∙ sym (arguments_sum h agg key ys)

has_entry_same : (a : Option Aggregation) (key : List KeyPart) (xs ys : List ℤ) → SameItems xs ys → HasEntry a key xs → HasEntry a key ys
has_entry_same None key xs ys same h = nil_from_length ys (let e = same_length xs ys same in let z = ap length h in omega arith)
has_entry_same (Some a) key xs ys same h = same_entry a.function (entry_at key a) xs ys same h

-- a table that stands for a list stands for it in any other order
pub stands_same : (table : List Aggregation) (xs ys : List Contribution) → SameItems xs ys → StandsFor table xs → StandsFor table ys
stands_same table xs ys same stands agg key = has_entry_same (slice_get table agg) key (arguments_of agg key xs) (arguments_of agg key ys) (same_arguments agg key xs ys same) (stands agg key)
