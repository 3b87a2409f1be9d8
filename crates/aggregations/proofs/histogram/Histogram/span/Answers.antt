use Rattle.std.proofs.Common.{◌≡◌, ℕ, zero, suc, ◌<◌, ◌≤◌, ◌⊎◌, inl, inr, min, max, List, [], ◌∷◌}
use Rattle.std.proofs.Common.{Option, None, Some, All, Contains, refl, sym, ap, ◌∙◌, subst, ⊎_elim}
use Rattle.std.proofs.Common.{arith, rules, sum, fold}
use Rattle.std.specs.Prelude.{nat_eq, IsSome, MatchOption}
use Rattle.std.specs.List.{reduce, range_with_len}
use Rattle.std.specs.Map.{lookup, keys_of}
use Rattle.std.specs.Option.{unwrap_or}
use Rattle.std.proofs.lemmas.Bool.{cases_lt, eqb-true}
use Rattle.std.proofs.lemmas.Cmp.{nat_eq_equiv}
use Rattle.std.proofs.lemmas.Iterator.Adapters.{option_map_id}
use Rattle.std.proofs.lemmas.Iterator.Consumers.{min_from_yields_List, max_from_yields_List}
use Rattle.std.proofs.lemmas.Iterator.Consumers.{YieldsList-from_rest, YieldsList-from_copied}
use Rattle.std.proofs.lemmas.List.Elements.{All-contains, All-cons, All-head, All-nil, All-tail}
use Rattle.std.proofs.lemmas.List.Elements.{Contains-get_or}
use Rattle.std.proofs.lemmas.Option.{same_Some}
use Rattle.std.proofs.lemmas.Map.Views.{IsSome-lookup_from_Contains, Contains-keys_from_lookup}
use Rattle.aggregations.specs.Vocabulary.{Scale}
use Rattle.aggregations.specs.Buckets.{buckets}
use Rattle.aggregations.specs.Histograms.{used_at, counts_used, AreUsed, IsSpan}
use Rattle.aggregations.proofs.HistogramLemmas.{count_kept, none_used}
use Rattle.aggregations.proofs.histogram.Histogram.span.Goals as goal

-- what picks one of two numbers, over a list
module _ (f : ℕ → ℕ → ℕ) (R : ℕ → ℕ → Type 0) (itself : (x : ℕ) → R x x) (on : (x y z : ℕ) → R x y → R y z → R x z)
    (picks : (a x : ℕ) → (f a x ≡ a) ⊎ (f a x ≡ x)) (bounds : (a x : ℕ) → R (f a x) a × R (f a x) x) where
  folded : (a : ℕ) (xs : List ℕ) → Contains (a ∷ xs) (fold f a xs) × All (R (fold f a xs)) (a ∷ xs)
  folded a [] = (Contains-get_or (a ∷ []) 0 a (omega arith), All-cons (R a) a [] (itself a) (All-nil (R a)))
  folded a (x ∷ xs) =
      let rest = folded (f a x) xs in
      let r = fold f (f a x) xs in
      let bound = All-head (R r) (f a x) xs rest.1 in (
        at r rest.0 (picks a x),
        All-cons (R r) a (x ∷ xs) (on r (f a x) a bound (bounds a x).0)
            (All-cons (R r) x xs (on r (f a x) x bound (bounds a x).1) (All-tail (R r) (f a x) xs rest.1)),
      )
    where
      at : (r : ℕ) → Contains (f a x ∷ xs) r → (f a x ≡ a) ⊎ (f a x ≡ x) → Contains (a ∷ x ∷ xs) r
      at r (zero, lt, e) (inl p) = (0, omega arith, sym p ∙ e)
      at r (zero, lt, e) (inr p) = (1, omega arith, sym p ∙ e)
      at r (suc i, lt, e) p = (suc (suc i), omega (arith, lt), e)

  reduced : (ks : List ℕ) (m : ℕ) → reduce f ks ≡ Some m → Contains ks m × All (R m) ks
  reduced [] m e = absurd cc
  reduced (k ∷ ks) m e = subst (λ n. Contains (k ∷ ks) n × All (R n) (k ∷ ks)) (same_Some _ m e) (folded k ks)

least_key : (ks : List ℕ) (m : ℕ) → reduce min ks ≡ Some m → Contains ks m × All (λ x. m ≤ x) ks
least_key = reduced min (λ x y. x ≤ y) (λ x. omega arith) (λ x y z a b. omega (arith, a, b))
    (λ a x. ⊎_elim (λ (lt : a < x). inl (omega arith)) (λ (le : x ≤ a). inr (omega arith)) (cases_lt a x)) (λ a x. (omega arith, omega arith))

greatest_key : (ks : List ℕ) (m : ℕ) → reduce max ks ≡ Some m → Contains ks m × All (λ x. x ≤ m) ks
greatest_key = reduced max (λ x y. y ≤ x) (λ x. omega arith) (λ x y z a b. omega (arith, a, b))
    (λ a x. ⊎_elim (λ (lt : a < x). inr (omega arith)) (λ (le : x ≤ a). inl (omega arith)) (cases_lt a x)) (λ a x. (omega arith, omega arith))

-- no keys, no counts
sum-no_keys : (f : Scale) (used : List (ℕ × ℕ)) → reduce min (keys_of used) ≡ None → sum (counts_used f used) ≡ 0
sum-no_keys f [] e = none_used (range_with_len 0 (buckets f))
sum-no_keys f (b ∷ used) e = absurd cc

module _ (f : Scale) (used : List (ℕ × ℕ)) (kept : AreUsed f used) where
  has_count : (b : ℕ) → Contains (keys_of used) b → 0 < used_at used b
  has_count b there = at (lookup (nat_eq b) used) refl (IsSome-lookup_from_Contains nat_eq_equiv b used there)
    where
      at : (o : Option ℕ) → lookup (nat_eq b) used ≡ o → IsSome (lookup (nat_eq b) used) → 0 < used_at used b
      at None e some = absurd (let gone = subst IsSome e some in cc)
      at (Some n) e some = subst (λ o. 0 < unwrap_or o 0) (sym e) (kept.each b n e).1

  no_count : (b : ℕ) → (Contains (keys_of used) b → ⊥) → used_at used b ≡ 0
  no_count b gone = at (lookup (nat_eq b) used) refl
    where
      at : (o : Option ℕ) → lookup (nat_eq b) used ≡ o → used_at used b ≡ 0
      at None e = ap (λ o. unwrap_or o 0) e
      at (Some n) e = absurd (gone (Contains-keys_from_lookup eqb-true b used (subst IsSome (sym e) refl)))

  is_span : (first last : ℕ) → reduce min (keys_of used) ≡ Some first → reduce max (keys_of used) ≡ Some last → IsSpan (counts_used f used) first last
  is_span first last is_first is_last =
      let least = least_key (keys_of used) first is_first in
      let greatest = greatest_key (keys_of used) last is_last in
      record {
        starts = subst (λ n. 0 < n) (sym (count_kept f used first kept)) (has_count first least.0);
        ends = subst (λ n. 0 < n) (sym (count_kept f used last kept)) (has_count last greatest.0);
        before = λ b lt. count_kept f used b kept ∙ no_count b (λ c. let le : first ≤ b = All-contains (λ x. first ≤ x) (keys_of used) b least.1 c in omega arith);
        after = λ b lt. count_kept f used b kept ∙ no_count b (λ c. let le : b ≤ last = All-contains (λ x. x ≤ last) (keys_of used) b greatest.1 c in omega arith);
      }

pub returns-in_err-first : goal.returns-in_err-first
returns-in_err-first c =
    let used = c.self.inside.used.entries in
    let none : reduce min (keys_of used) ≡ None =
    sym (sym (option_map_id _) ∙ min_from_yields_List c.copied.result _ c.min.ensures.ran (YieldsList-from_copied (YieldsList-from_rest (keys_of used) (search rules)))) ∙ c.in_err-first.was in
    subst (λ r. MatchOption r (sum c.args.self.now.counts ≡ 0) (λ s. IsSpan c.args.self.now.counts s.0 s.1)) (sym c.from_residual.ensures)
    (subst (λ h. sum h.counts ≡ 0) c.self.view_is (sum-no_keys c.self.inside.scale used none))

pub returns : goal.returns
returns c =
    let used = c.self.inside.used.entries in
    let first : reduce min (keys_of used) ≡ Some c.in_ok-first.first =
    sym (sym (option_map_id _) ∙ min_from_yields_List c.copied.result _ c.min.ensures.ran (YieldsList-from_copied (YieldsList-from_rest (keys_of used) (search rules)))) ∙ c.in_ok-first.was in
    let last : reduce max (keys_of used) ≡ Some c.in_ok-last.last =
    sym (sym (option_map_id _) ∙ max_from_yields_List c.copied-2.result _ c.max.ensures.ran (YieldsList-from_copied (YieldsList-from_rest (keys_of used) (search rules)))) ∙ c.in_ok-last.was in
    subst (λ h. IsSpan h.counts c.in_ok-first.first c.in_ok-last.last) c.self.view_is
    (is_span c.self.inside.scale used c.self.invariant c.in_ok-first.first c.in_ok-last.last first last)
