-- Contributions make one listing, and one output.
use Rattle.std.proofs.Common.{◌≡◌, ◌⊎◌, inl, inr, ⊎_elim, ℕ, zero, suc, ◌+◌, List, [], ◌∷◌, ◌++◌}
use Rattle.std.proofs.Common.{Contains, Some, refl, sym, ap, ◌∙◌, subst, arith}
use Rattle.std.specs.Cmp.{IsTotalOrder}
use Rattle.std.specs.List.{AllZip, enumerate_from, flat_map}
use Rattle.std.specs.List.Sorted.{IsStrictlySortedBy}
use Rattle.std.specs.Map.{lookup}
use Rattle.std.specs.Ordering.{ordering_reverse}
use Rattle.std.specs.declared.cmp.Ordering.{Ordering}
use Rattle.std.specs.declared.cmp.Ordering.TheVariants.{Less, Greater}
use Rattle.std.proofs.lemmas.List.Elements.{All-contains, All-from_recursion}
use Rattle.std.proofs.lemmas.Map.Keys.{sorted_head, sorted_tail}
use Rattle.std.proofs.lemmas.Map.Made.{Contains-tail}
use Rattle.std.proofs.lemmas.Map.Views.{Contains-from_lookup, lookup-from_Contains}
use Rattle.d_values.specs.Keys.{same_key}
use Rattle.d_values.specs.KeyLaws.{same_key_decides, same_key_equiv}
use Rattle.aggregations.specs.Table.{Contribution, AreEntries, arguments_of}
use Rattle.aggregations.specs.declared.function.AggFn.{AggFn}
use Rattle.aggregations.proofs.EntryLemmas.{one_entry}
use Rattle.report.specs.Entry.{Entry}
use Rattle.report.specs.Listing.{IsListing, listing_bytes}
use Rattle.report.specs.Output.{IsOutput}
use Rattle.report.proofs.Listings.{entry_cmp_total}

-- ---- lists that rise

module _ {X : Type 0} {R : X → X → Ordering} (order : IsTotalOrder R) where
  not_both : (x y : X) → R x y ≡ Less → R y x ≡ Less → ⊥
  not_both x y below above = let turned : Less ≡ Greater = sym below ∙ order.antisymm x y ∙ ap ordering_reverse above in cc

  not_itself : (x : X) → R x x ≡ Less → ⊥
  not_itself x below = not_both x x below below

  -- an element of a list that rises is its first, or the first is below it
  first_or_above : (x y : X) (ys : List X) → IsStrictlySortedBy R (y ∷ ys) → Contains (y ∷ ys) x → (x ≡ y) ⊎ (R y x ≡ Less)
  first_or_above x y ys rises (zero, within, is) = inl (sym is)
  first_or_above x y ys rises (suc k, within, is) =
      inr (All-contains (λ z. R y z ≡ Less) ys x (All-from_recursion (λ z. R y z ≡ Less) ys (sorted_head R y ys rises)) (k, omega arith, is))

  same_first : (x y : X) (xs ys : List X) → IsStrictlySortedBy R (x ∷ xs) → IsStrictlySortedBy R (y ∷ ys) → Contains (y ∷ ys) x → Contains (x ∷ xs) y → x ≡ y
  same_first x y xs ys xs_rise ys_rise x_there y_there =
      ⊎_elim (λ e. e) (λ (above : R y x ≡ Less). ⊎_elim (λ e. sym e) (λ below. absurd (not_both x y below above)) (first_or_above y x xs xs_rise y_there)) (first_or_above x y ys ys_rise x_there)

  -- what comes after the first
  after_first : (x : X) (xs ys : List X) → IsStrictlySortedBy R (x ∷ xs) → ((z : X) → Contains (x ∷ xs) z → Contains (x ∷ ys) z) → (z : X) → Contains xs z → Contains ys z
  after_first x xs ys rises same z (k, within, is) =
      let above : R x z ≡ Less = All-contains (λ z. R x z ≡ Less) xs z (All-from_recursion (λ z. R x z ≡ Less) xs (sorted_head R x xs rises)) (k, within, is) in
      Contains-tail x ys z (λ e. not_itself x (ap (R x) e ∙ above)) (same z (suc k, omega arith, is))

  -- lists that rise and have the same elements are one list
  pub same_list : (xs ys : List X) → IsStrictlySortedBy R xs → IsStrictlySortedBy R ys → ((z : X) → Contains xs z → Contains ys z) → ((z : X) → Contains ys z → Contains xs z) → xs ≡ ys
  same_list [] [] xs_rise ys_rise to back = refl
  same_list [] (y ∷ ys) xs_rise ys_rise to back = let (k, within, is) = back y (zero, omega arith, refl) in absurd (omega arith)
  same_list (x ∷ xs) [] xs_rise ys_rise to back = let (k, within, is) = to x (zero, omega arith, refl) in absurd (omega arith)
  same_list (x ∷ xs) (y ∷ ys) xs_rise ys_rise to back =
      let first : x ≡ y = same_first x y xs ys xs_rise ys_rise (to x (zero, omega arith, refl)) (back y (zero, omega arith, refl)) in
      let ys_after : IsStrictlySortedBy R (x ∷ ys) = subst (λ z. IsStrictlySortedBy R (z ∷ ys)) (sym first) ys_rise in
      let rest : xs ≡ ys = same_list xs ys (sorted_tail R x xs xs_rise) (sorted_tail R y ys ys_rise)
      (after_first x xs ys xs_rise (λ z there. subst (λ w. Contains (w ∷ ys) z) (sym first) (to z there)))
      (after_first x ys xs ys_after (λ z there. back z (subst (λ w. Contains (w ∷ ys) z) first there))) in
      ap (λ l. x ∷ l) rest ∙ ap (λ z. z ∷ ys) first

-- ---- one listing

module _ (function : AggFn) (agg : ℕ) (contributions : List Contribution) where
  same_entries : (xs ys : List Entry) → AreEntries function agg contributions xs → AreEntries function agg contributions ys → (e : Entry) → Contains xs e → Contains ys e
  same_entries xs ys xs_are ys_are (key, value) there =
      let here : lookup (same_key key) xs ≡ Some value = lookup-from_Contains same_key_equiv key value xs xs_are.once there in
      let same = one_entry function (lookup (same_key key) ys) (lookup (same_key key) xs) (arguments_of agg key contributions)
      (ys_are.values key) (xs_are.values key) in
      Contains-from_lookup (λ x y. (same_key_decides x y).0) key value ys (same ∙ here)

  pub one_listing : (xs ys : List Entry) → IsListing function agg contributions xs → IsListing function agg contributions ys → xs ≡ ys
  one_listing xs ys x_is y_is = same_list entry_cmp_total xs ys x_is.rises y_is.rises (same_entries xs ys x_is.are y_is.are) (same_entries ys xs y_is.are x_is.are)

-- ---- one output

same_listings : (contributions : List Contribution) (n : ℕ) (functions : List AggFn) (xs ys : List (List Entry))
    → AllZip (λ agg entries. IsListing agg.1 agg.0 contributions entries) (enumerate_from n functions) xs
    → AllZip (λ agg entries. IsListing agg.1 agg.0 contributions entries) (enumerate_from n functions) ys → xs ≡ ys
same_listings contributions n [] [] [] a b = refl
same_listings contributions n [] [] (y ∷ ys) a b = absurd b
same_listings contributions n [] (x ∷ xs) ys a b = absurd a
same_listings contributions n (f ∷ fs) [] ys a b = absurd a
same_listings contributions n (f ∷ fs) (x ∷ xs) [] a b = absurd b
same_listings contributions n (f ∷ fs) (x ∷ xs) (y ∷ ys) a b =
    ap (λ l. l ∷ xs) (one_listing f n contributions x y a.0 b.0) ∙ ap (λ ls. y ∷ ls) (same_listings contributions (n + 1) fs xs ys a.1 b.1)

pub one_output : (functions : List AggFn) (texts : List (ℕ × List ℕ)) (contributions : List Contribution) (xs ys : List ℕ)
    → IsOutput functions texts contributions xs → IsOutput functions texts contributions ys → xs ≡ ys
one_output functions texts contributions xs ys x_is y_is =
    x_is.joined
    ∙ ap (λ listings. flat_map (λ text. text.1) texts ++ flat_map listing_bytes listings) (same_listings contributions 0 functions x_is.listings y_is.listings x_is.listed y_is.listed)
    ∙ sym y_is.joined
