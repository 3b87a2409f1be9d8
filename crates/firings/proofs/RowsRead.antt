-- Rows that are read together.
use Rattle.std.specs.Prelude.{◌≡◌, ◌<◌, ℕ, zero, suc, List, [], ◌∷◌, Option, None, Some, IfSome, All}
use Rattle.std.specs.Prelude.{length, map, option_map, slice_get, take}
use Rattle.std.proofs.Common.{arith, get_or, refl, subst, sym, ap, ◌∙◌}
use Rattle.std.proofs.lemmas.List.{length-map}
use Rattle.std.proofs.lemmas.List.Elements.{All-map}
use Rattle.std.proofs.lemmas.Option.{get_or_from_slice_get, slice_get-map, slice_get_within}
use Rattle.firings.specs.Stored.{row_before}

pub before_is : {X : Type 0} (P : X → Type 0) (xs : List X) (index : ℕ) → All P xs → IfSome (row_before xs index) P
before_is P xs zero all = tt
before_is P xs (suc i) all = found (slice_get xs i) refl
  where
    found : (r : Option _) → slice_get xs i ≡ r → IfSome r P
    found None is = tt
    found (Some x) is = subst P (get_or_from_slice_get xs i x x is) (all i x (slice_get_within xs i x is))

pub all_before : {X : Type 0} (P : X → Type 0) (xs : List X) (indices : List ℕ) → All P xs → All (λ r. IfSome r P) (map (row_before xs) indices)
all_before P xs indices all = All-map (λ (r : Option _). IfSome r P) (row_before xs) indices (λ k d lt. before_is P xs _ all)

pub before_mapped : {X Y : Type 0} (f : X → Y) (xs : List X) (indices : List ℕ) → map (option_map f) (map (row_before xs) indices) ≡ map (row_before (map f xs)) indices
before_mapped f xs [] = refl
before_mapped f xs (zero ∷ indices) = rw (before_mapped f xs indices) refl
before_mapped f xs (suc i ∷ indices) = rw (slice_get-map f xs i, before_mapped f xs indices) refl

-- ---- one of them

taken_at : {X : Type 0} (n : ℕ) (xs : List X) (i : ℕ) (d : X) → i < length (take n xs) → slice_get (take n xs) i ≡ Some (get_or xs i d)
taken_at zero xs i d lt = absurd (omega arith)
taken_at (suc n) [] i d lt = absurd (omega arith)
taken_at (suc n) (x ∷ xs) zero d lt = refl
taken_at (suc n) (x ∷ xs) (suc i) d lt = taken_at n xs i d (omega arith)

module _ {X Y : Type 0} (f : X → Y) (n : ℕ) (xs : List (Option X)) (seen : List (Option Y)) (is : map (option_map f) (take n xs) ≡ seen) (i : ℕ) (lt : i < length seen) where
  pub within_taken : i < length (take n xs)
  within_taken =
      let size = length-map (take n xs) (option_map f) in
      let inside = subst (λ (l : List (Option Y)). i < length l) (sym is) lt in
      omega (arith, size, inside)

  pub seen_at : (r : Option X) → get_or xs i None ≡ r → slice_get seen i ≡ Some (option_map f r)
  seen_at r at =
      subst (λ (l : List (Option Y)). slice_get l i ≡ Some (option_map f r)) is
      (slice_get-map (option_map f) (take n xs) i ∙ ap (option_map (option_map f)) (taken_at n xs i None within_taken ∙ ap (λ (o : Option X). Some o) at))

  pub kept_at : (P : X → Type 0) (x : X) → All (λ r. IfSome r P) (take n xs) → get_or xs i None ≡ Some x → P x
  kept_at P x all at =
      subst (λ (o : Option X). IfSome o P) (get_or_from_slice_get (take n xs) i (Some x) None (taken_at n xs i None within_taken ∙ ap (λ (o : Option X). Some o) at))
      (all i None within_taken)
