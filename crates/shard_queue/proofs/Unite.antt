-- The indices of all groups, and the firings at them.
use Rattle.std.proofs.Common.{◌≡◌, ℕ, zero, suc, ◌+◌, ◌<◌, ◌≤◌, Bool, true, false, cond, List, []}
use Rattle.std.proofs.Common.{◌∷◌, Option, Some, None, IsSomeAnd, map, length, drop, filter}
use Rattle.std.proofs.Common.{flat_map, slice_get, sum_by, refl, sym, ap, ◌∙◌, arith, add-one}
use Rattle.std.proofs.Common.{append-nil, eq-eqb, ne_eqb, lt_of_not-le}
use mathlib.Core.Logic.{dite}
use native.Mathlib.Decide.{dec_le}
use Rattle.std.specs.Prelude.{ℤ, All}
use Rattle.std.specs.List.{range_with_len}
use Rattle.std.proofs.lemmas.List.Sums.{sum_by-cons, sum_by-append}
use Rattle.std.proofs.lemmas.List.Concat.{flat_map-append}
use Rattle.firings.specs.declared.firing.Firing.{Firing}
use Rattle.firings.specs.Firings.{thread_of}
use Rattle.shard_queue.specs.Numbers.{below, IsAllBelow}
use Rattle.shard_queue.specs.Groupings.{Grouping, is_group, of_group, indices_from, indices_of}
use Rattle.shard_queue.proofs.Lists.{all_tail}
use Rattle.shard_queue.proofs.Totals.{range_more}

-- the weight of the indices of the first n groups
abbrev pub spread : (ℕ → ℕ) → (ℤ → Option ℕ) → ℕ → List ℤ → ℕ → ℕ
spread h group i threads n = sum_by h (flat_map (λ g. indices_from (λ t. is_group g (group t)) i threads) (below n))

spread-suc : (h : ℕ → ℕ) (group : ℤ → Option ℕ) (i : ℕ) (threads : List ℤ) (n : ℕ)
    → spread h group i threads (suc n) ≡ spread h group i threads n + sum_by h (indices_from (λ t. is_group n (group t)) i threads)
spread-suc h group i threads n =
    let f : ℕ → List ℕ = λ g. indices_from (λ t. is_group g (group t)) i threads in
    ap (λ l. sum_by h (flat_map f l)) (range_more 0 n)
    ∙ ap (sum_by h) (flat_map-append f (below n) ((0 + n) ∷ []))
    ∙ sum_by-append h (flat_map f (below n)) (flat_map f ((0 + n) ∷ []))
    ∙ ap (λ l. spread h group i threads n + sum_by h l) (append-nil (f (0 + n)) ∙ ap f (let same : 0 + n ≡ n = omega arith in same))

-- the index of a first thread in a group, or in another
index_in : (h : ℕ → ℕ) (b : Bool) (i : ℕ) (rest : List ℕ) → b ≡ true → sum_by h (cond b (i ∷ rest) rest) ≡ sum_by h rest + h i
index_in h true i rest is = let here = sum_by-cons h i rest in omega arith
index_in h false i rest is = absurd cc

index_out : (h : ℕ → ℕ) (b : Bool) (i : ℕ) (rest : List ℕ) → b ≡ false → sum_by h (cond b (i ∷ rest) rest) ≡ sum_by h rest
index_out h true i rest is = absurd cc
index_out h false i rest is = refl

-- the groups before that of the first thread gain nothing
before : (h : ℕ → ℕ) (group : ℤ → Option ℕ) (i : ℕ) (t : ℤ) (threads : List ℤ) (g n : ℕ) → group t ≡ Some g → n ≤ g → spread h group i (t ∷ threads) n ≡ spread h group (suc i) threads n
before h group i t threads g zero is le = refl
before h group i t threads g (suc n) is le =
    let rest = indices_from (λ u. is_group n (group u)) (suc i) threads in
    let a = spread-suc h group i (t ∷ threads) n in
    let b = spread-suc h group (suc i) threads n in
    let more = before h group i t threads g n is (omega arith) in
    let out = index_out h (is_group n (group t)) i rest (ap (is_group n) is ∙ ne_eqb g n (λ e. omega arith)) in
    omega arith

-- from there on they have its index
after : (h : ℕ → ℕ) (group : ℤ → Option ℕ) (i : ℕ) (t : ℤ) (threads : List ℤ) (g n : ℕ) → group t ≡ Some g → g < n → spread h group i (t ∷ threads) n ≡ spread h group (suc i) threads n + h i
after h group i t threads g zero is lt = absurd (omega arith)
after h group i t threads g (suc n) is lt =
    let rest = indices_from (λ u. is_group n (group u)) (suc i) threads in
    let a = spread-suc h group i (t ∷ threads) n in
    let b = spread-suc h group (suc i) threads n in
    dite (dec_le n g)
    (λ (le : n ≤ g).
    let same = before h group i t threads g n is le in
    let here = index_in h (is_group n (group t)) i rest (ap (is_group n) is ∙ eq-eqb g n (omega arith)) in
    omega arith)
    (λ no.
    let less : g < n = lt_of_not-le no in
    let more = after h group i t threads g n is less in
    let out = index_out h (is_group n (group t)) i rest (ap (is_group n) is ∙ ne_eqb g n (λ e. omega arith)) in
    omega arith)

nowhere : (h : ℕ → ℕ) (group : ℤ → Option ℕ) (i n : ℕ) → spread h group i [] n ≡ 0
nowhere h group i zero = refl
nowhere h group i (suc n) = let step = spread-suc h group i [] n in let none = nowhere h group i n in omega arith

spread_all : (h : ℕ → ℕ) (group : ℤ → Option ℕ) (n i : ℕ) (threads : List ℤ) → All (λ t. IsSomeAnd (group t) (λ g. g < n)) threads
    → spread h group i threads n ≡ sum_by h (range_with_len i (length threads))
spread_all h group n i [] each = nowhere h group i n
spread_all h group n i (t ∷ threads) each =
    let later = spread_all h group n (suc i) threads (all_tail (λ u. IsSomeAnd (group u) (λ g. g < n)) (t ∷ threads) t threads each refl) in
    let range = sum_by-cons h i (range_with_len (i + 1) (length threads)) in
    let same : sum_by h (range_with_len (suc i) (length threads)) ≡ sum_by h (range_with_len (i + 1) (length threads)) = ap (λ j. sum_by h (range_with_len j (length threads))) (sym (add-one i)) in
    let first = first_one (group t) refl (each 0 t (omega arith)) in
    omega arith
  where
    first_one : (o : Option ℕ) → group t ≡ o → IsSomeAnd o (λ g. g < n) → spread h group i (t ∷ threads) n ≡ spread h group (suc i) threads n + h i
    first_one None is some = absurd some
    first_one (Some g) is lt = after h group i t threads g n is lt

pub each_index : (grouping : Grouping) (threads : List ℤ) → All (λ t. IsSomeAnd (grouping.group t) (λ g. g < grouping.count)) threads
    → IsAllBelow (length threads) (flat_map (λ g. indices_of grouping g threads) (below grouping.count))
each_index grouping threads each h = spread_all h grouping.group grouping.count 0 threads each

from_index : {A : Type 0} (all : List A) (i : ℕ) (x : A) (xs : List A) → drop i all ≡ x ∷ xs → (slice_get all i ≡ Some x) × (drop (suc i) all ≡ xs)
from_index [] zero x xs e = absurd cc
from_index [] (suc i) x xs e = absurd cc
from_index (y ∷ all) zero x xs e = (ap (λ l. slice_get l 0) e, ap (drop 1) e)
from_index (y ∷ all) (suc i) x xs e = from_index all i x xs e

at_indices : (p : ℤ → Bool) (all : List Firing) (i : ℕ) (firings : List Firing) → drop i all ≡ firings
    → map (slice_get all) (indices_from p i (map thread_of firings)) ≡ map Some (filter (λ f. p f.thread) firings)
at_indices p all i [] is = refl
at_indices p all i (f ∷ firings) is =
    let here = from_index all i f firings is in
    either_way (p f.thread) here.0 (at_indices p all (suc i) firings here.1)
  where
    either_way : (b : Bool) → slice_get all i ≡ Some f → map (slice_get all) (indices_from p (suc i) (map thread_of firings)) ≡ map Some (filter (λ f. p f.thread) firings)
        → map (slice_get all) (cond b (i ∷ indices_from p (suc i) (map thread_of firings)) (indices_from p (suc i) (map thread_of firings)))
        ≡ map Some (cond b (f ∷ filter (λ f. p f.thread) firings) (filter (λ f. p f.thread) firings))
    either_way true at more = ap (λ (o : Option Firing). o ∷ map (slice_get all) (indices_from p (suc i) (map thread_of firings))) at ∙ ap (λ (l : List (Option Firing)). Some f ∷ l) more
    either_way false at more = more

pub firings_at : (grouping : Grouping) (g : ℕ) (firings : List Firing) → map (slice_get firings) (indices_of grouping g (map thread_of firings)) ≡ map Some (of_group grouping g firings)
firings_at grouping g firings = at_indices (λ t. is_group g (grouping.group t)) firings 0 firings refl
