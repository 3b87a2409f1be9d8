-- What blocks of a list make, one after the other.
use Rattle.std.proofs.Common.{◌≡◌, ℕ, List, [], ◌∷◌, ◌++◌, map, refl, sym, ap, ◌∙◌, subst, Vec}
use Rattle.std.specs.Borrow.{Bor}
use Rattle.std.specs.List.{AllZip, Contains, flat_map}
use Rattle.std.specs.Prelude.{Ok, Err, IfOk, MatchResult}
use Rattle.std.specs.declared.result.Result.{Result}
use Rattle.std.proofs.lemmas.List.Concat.{flat_map-append}

module _ {X A : Type 0} (E : Type 0) (f : X → List ℕ) where
  -- a block makes the bytes of what is in it, or nothing
  abbrev pub Makes : Bor (List X) → Result (Vec ℕ A) E → Type 0
  Makes block result = IfOk result (λ bytes. bytes.items ≡ flat_map f block.now)

  made_of : (blocks : List (Bor (List X))) (made : List (Vec ℕ A)) → AllZip Makes blocks (map Ok made)
      → flat_map (λ bytes. bytes.items) made ≡ flat_map f (flat_map (λ l. l) (map (λ block. block.now) blocks))
  made_of [] [] each = refl
  made_of [] (bytes ∷ made) each = absurd each
  made_of (block ∷ blocks) [] each = absurd each
  made_of (block ∷ blocks) (bytes ∷ made) each =
      ap (λ l. l ++ flat_map (λ bytes. bytes.items) made) each.0
      ∙ ap (λ l. flat_map f block.now ++ l) (made_of blocks made each.1)
      ∙ sym (flat_map-append f block.now (flat_map (λ l. l) (map (λ block. block.now) blocks)))

  -- all blocks make the bytes of the whole list
  pub made_of_blocks : (collected : Result (Vec (Vec ℕ A) A) E) (results : List (Result (Vec ℕ A) E)) (blocks : List (Bor (List X))) (whole : List X)
      → flat_map (λ l. l) (map (λ block. block.now) blocks) ≡ whole → AllZip Makes blocks results
      → MatchResult collected (λ v. (made : List (Vec ℕ A)) × (results ≡ map Ok made) × (v.items ≡ made)) (λ e. Contains results (Err e))
      → IfOk collected (λ v. flat_map (λ bytes. bytes.items) v.items ≡ flat_map f whole)
  made_of_blocks (Ok v) results blocks whole are each (made, is, items) =
      ap (flat_map (λ bytes. bytes.items)) items ∙ made_of blocks made (subst (AllZip Makes blocks) is each) ∙ ap (flat_map f) are
  made_of_blocks (Err e) results blocks whole are each err = tt
