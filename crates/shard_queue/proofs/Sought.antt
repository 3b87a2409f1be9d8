-- Threads in ascending order, and what stands at their indices.
use Rattle.std.proofs.Common.{◌≡◌, ℕ, zero, suc, ◌+◌, ◌≤◌, Bool, true, false, cond, ◌||◌, List, []}
use Rattle.std.proofs.Common.{◌∷◌, Some, None, Result, Ok, Err, MatchOption, map, length, set}
use Rattle.std.proofs.Common.{get_or, unwrap_or, slice_get, refl, sym, ap, ◌∙◌, subst, arith}
use Rattle.std.proofs.Common.{lt_of_not-le}
use mathlib.Core.Logic.{dite}
use native.Mathlib.Decide.{dec_le}
use Rattle.std.proofs.Common.{of_z}
use mir.Syntax.{w32}
use Rattle.std.specs.Prelude.{ℤ, slice_index_or}
use Rattle.std.specs.Result.{result_ok}
use Rattle.std.specs.Ordering.{int_eq, int_cmp, is_eq, is_lt, ordering_reverse}
use Rattle.std.specs.declared.cmp.Ordering.{Ordering}
use Rattle.std.specs.declared.cmp.Ordering.TheVariants.{Less, Equal, Greater}
use Rattle.std.specs.Cmp.{signed_Decides, both_ways}
use Rattle.std.specs.List.{zip}
use Rattle.std.specs.List.Sorted.{IsStrictlySortedBy, IsSortedBy, IsBinarySearchResult}
use Rattle.std.specs.List.Sorted.{IsSearchInRange}
use Rattle.std.specs.Map.{lookup}
use Rattle.std.proofs.lemmas.Cmp.{int_cmp_total, tied_itself}
use Rattle.std.proofs.lemmas.Map.Lookups.{exact_signed}
use Rattle.std.proofs.lemmas.Map.Keys.{sorted_tail}
use Rattle.std.proofs.lemmas.Map.Views.{All-after_first}
use Rattle.std.proofs.lemmas.Option.{slice_get-get_or, slice_get_within, get_or_from_slice_get}
use Rattle.std.proofs.lemmas.List.Folds.{list_any_none, list_any_at}
use Rattle.std.proofs.lemmas.List.Sorted.{searchable_from_sorted}
use Rattle.shard_queue.specs.Threads.{thread_zero, has}

equal : (o : Ordering) → is_eq o ≡ true → o ≡ Equal
equal Less e = absurd cc
equal Equal e = refl
equal Greater e = absurd cc

-- both tests of equality return the same
pub same_test : (x t : ℤ) → is_eq (int_cmp x t) ≡ int_eq t x
same_test x t = both_ways (is_eq (int_cmp x t)) (int_eq t x)
    (λ e. (signed_Decides t x).1 (sym (exact_signed x t (equal (int_cmp x t) e))))
    (λ e. ap is_eq (ap (λ u. int_cmp x u) ((signed_Decides t x).0 e) ∙ tied_itself int_cmp_total x))

pub itself : (t : ℤ) → int_eq t t ≡ true
itself t = (signed_Decides t t).1 refl

reversed : (x t : ℤ) → int_cmp x t ≡ Less → int_cmp t x ≡ Greater
reversed x t less = int_cmp_total.antisymm t x ∙ ap ordering_reverse less

-- a thread whose bits aren't zero
pub not_zero : (t : ℤ) → (of_z w32 t ≡ 0 → ⊥) → int_eq t thread_zero ≡ false
not_zero t ne = here (int_eq t thread_zero) refl
  where
    here : (b : Bool) → int_eq t thread_zero ≡ b → b ≡ false
    here true e = absurd (ne (ap (of_z w32) ((signed_Decides t thread_zero).0 e)))
    here false e = refl

apart : (x t : ℤ) → int_cmp x t ≡ Less → int_eq t x ≡ false
apart x t less = sym (same_test x t) ∙ ap is_eq less

apart_back : (x t : ℤ) → int_cmp x t ≡ Less → int_eq x t ≡ false
apart_back x t less = sym (same_test t x) ∙ ap is_eq (reversed x t less)

-- what stands after the first thread is above it
above : (x t : ℤ) (ts : List ℤ) (k : ℕ) → IsStrictlySortedBy int_cmp (x ∷ ts) → slice_get ts k ≡ Some t → int_cmp x t ≡ Less
above x t ts k sorted at = subst (λ u. int_cmp x u ≡ Less) (get_or_from_slice_get ts k t t at) (All-after_first int_cmp x ts sorted k t (slice_get_within ts k t at))

weakly_sorted : (ts : List ℤ) → IsStrictlySortedBy int_cmp ts → IsSortedBy (λ a b. is_lt (int_cmp a b)) ts
weakly_sorted [] sorted k d low lt = absurd (omega arith)
weakly_sorted (x ∷ []) sorted k d low lt = absurd (omega arith)
weakly_sorted (x ∷ y ∷ ts) sorted zero d low lt = ap is_lt (reversed x y (All-after_first int_cmp x (y ∷ ts) sorted 0 d (omega arith)))
weakly_sorted (x ∷ y ∷ ts) sorted (suc k) d low lt =
    let next : suc k + 1 ≡ suc (k + 1) = omega arith in
    subst (λ j. is_lt (int_cmp (slice_index_or (x ∷ y ∷ ts) j d) (slice_index_or (x ∷ y ∷ ts) (suc k) d)) ≡ false) (sym next)
    (weakly_sorted (y ∷ ts) (sorted_tail int_cmp x (y ∷ ts) sorted) k d (omega arith) (omega arith))

-- what a binary search finds
pub searched : (ts : List ℤ) (t : ℤ) (r : Result ℕ ℕ) → IsStrictlySortedBy int_cmp ts → IsBinarySearchResult (λ y. int_cmp y t) ts r → IsSearchInRange r (length ts)
    → MatchOption (result_ok r) (has ts t ≡ false) (λ i. slice_get ts i ≡ Some t)
searched ts t (Ok i) sorted is within = slice_get-get_or ts i t within ∙ ap Some (exact_signed (get_or ts i t) t (is t))
searched ts t (Err i) sorted is within =
    let parts = is (searchable_from_sorted int_cmp_total (λ y. y) ts t (weakly_sorted ts sorted)) in
    list_any_none (int_eq t) ts (λ k d lt. sym (same_test (get_or ts k d) t)
    ∙ dite (dec_le i k) (λ (le : i ≤ k). ap is_eq (parts.1 k d le lt)) (λ no. ap is_eq (parts.0 k d (omega arith) (lt_of_not-le no))))

-- a thread at an index is among them
pub has_at : (ts : List ℤ) (i : ℕ) (t : ℤ) → slice_get ts i ≡ Some t → has ts t ≡ true
has_at ts i t at = list_any_at (int_eq t) ts i t (slice_get_within ts i t at) (ap (int_eq t) (get_or_from_slice_get ts i t t at) ∙ itself t)

Some-inside : {X : Type 0} (x y : X) → Some x ≡ Some y → x ≡ y
Some-inside x y e = ap (λ o. unwrap_or o x) e

-- what stands beside the thread at an index
pub lookup_at : {X : Type 0} (ts : List ℤ) (xs : List X) (i : ℕ) (t : ℤ) → IsStrictlySortedBy int_cmp ts → slice_get ts i ≡ Some t → lookup (int_eq t) (zip ts xs) ≡ slice_get xs i
lookup_at [] xs i t sorted at = absurd cc
lookup_at (x ∷ ts) [] i t sorted at = refl
lookup_at (x ∷ ts) (y ∷ xs) zero t sorted at =
    ap (λ b. cond b (Some y) (lookup (int_eq t) (zip ts xs))) (ap (int_eq t) (Some-inside x t at) ∙ itself t)
lookup_at (x ∷ ts) (y ∷ xs) (suc i) t sorted at =
    ap (λ b. cond b (Some y) (lookup (int_eq t) (zip ts xs))) (apart x t (above x t ts i sorted at)) ∙ lookup_at ts xs i t (sorted_tail int_cmp x ts sorted) at

neither : (a b : Bool) → (a || b) ≡ false → (a ≡ false) × (b ≡ false)
neither true b e = absurd cc
neither false b e = (refl, e)

-- beside a thread that isn't there stands nothing
pub lookup_stranger : {X : Type 0} (ts : List ℤ) (xs : List X) (t : ℤ) → has ts t ≡ false → lookup (int_eq t) (zip ts xs) ≡ None
lookup_stranger [] xs t none = refl
lookup_stranger (x ∷ ts) [] t none = refl
lookup_stranger (x ∷ ts) (y ∷ xs) t none =
    let n = neither (int_eq t x) (has ts t) none in
    ap (λ b. cond b (Some y) (lookup (int_eq t) (zip ts xs))) n.0 ∙ lookup_stranger ts xs t n.1

pub map_same : {X : Type 0} (f g : ℤ → X) (ts : List ℤ) → ((k : ℕ) (t : ℤ) → slice_get ts k ≡ Some t → f t ≡ g t) → map f ts ≡ map g ts
map_same f g [] same = refl
map_same f g (x ∷ ts) same = ap (λ y. y ∷ map f ts) (same 0 x refl) ∙ ap (λ l. g x ∷ l) (map_same f g ts (λ k t. same (suc k) t))

-- one thread gets another value, and the others keep theirs
pub map_noted : {X : Type 0} (f g : ℤ → X) (ts : List ℤ) (i : ℕ) (t : ℤ) (y : X) → IsStrictlySortedBy int_cmp ts → slice_get ts i ≡ Some t → g t ≡ y → ((u : ℤ) → int_eq u t ≡ false → g u ≡ f u)
    → set (map f ts) i y ≡ map g ts
map_noted f g [] i t y sorted at is others = absurd cc
map_noted f g (x ∷ ts) zero t y sorted at is others =
    let same : x ≡ t = Some-inside x t at in
    ap (λ z. z ∷ map f ts) (sym is ∙ ap g (sym same))
    ∙ ap (λ l. g x ∷ l) (map_same f g ts (λ k u e. sym (others u (subst (λ z. int_eq u z ≡ false) same (apart x u (above x u ts k sorted e))))))
map_noted f g (x ∷ ts) (suc i) t y sorted at is others =
    ap (λ z. z ∷ set (map f ts) i y) (sym (others x (apart_back x t (above x t ts i sorted at))))
    ∙ ap (λ l. g x ∷ l) (map_noted f g ts i t y (sorted_tail int_cmp x ts sorted) at is others)
