-- Pieces that are moved to places stay the same pieces.
use Rattle.std.proofs.Common.{◌≡◌, ℕ, zero, suc, ◌+◌, ◌<◌, false, List, [], ◌∷◌, ◌++◌, length}
use Rattle.std.proofs.Common.{get_or, set, Option, None, Some, sym, ap, ◌∙◌, subst, refl, arith}
use Rattle.std.proofs.Common.{map, IsPermutation}
use Rattle.std.proofs.lemmas.List.Sorted.{IsPermutation-refl, IsPermutation-sym, IsPermutation-cons}
use Rattle.std.proofs.lemmas.List.Sorted.{IsPermutation-trans, IsPermutation-middle}
use Rattle.std.proofs.lemmas.List.Sorted.{IsPermutation-append_left}
use Rattle.replay_core.specs.declared.lanes.piece.Piece.{Piece}
use Rattle.replay_core.specs.Steps.PiecePlaces.{is_filled, pieces_with_places}
use Rattle.replay_core.specs.Collecting.{pieces_with_groups}

standing_none : (a : ℕ) (places : List (Option Piece)) → ((k : ℕ) → get_or places k None ≡ None) → pieces_with_places a places ≡ []
standing_none a [] none = refl
standing_none a (None ∷ places) none = standing_none (a + 1) places (λ k. none (suc k))
standing_none a (Some p ∷ places) none = absurd (let e : Some p ≡ None = none 0 in cc)

pub same_start : (places : List (Option Piece)) (pieces rest : List (ℕ × Piece)) → ((k : ℕ) → get_or places k None ≡ None) → rest ≡ pieces → IsPermutation pieces (pieces_with_places 0 places ++ rest)
same_start places pieces rest none e = subst (λ l. IsPermutation pieces l) (sym (ap (λ l. l ++ rest) (standing_none 0 places none) ∙ e)) (IsPermutation-refl pieces)

-- a free place is filled
set_one : (places : List (Option Piece)) (k a g : ℕ) (p : Piece) → g ≡ a + k → k < length places → is_filled places k ≡ false → IsPermutation ((g, p) ∷ pieces_with_places a places) (pieces_with_places a (set places k (Some p)))
set_one [] k a g p e lt free = absurd (omega arith)
set_one (None ∷ places) zero a g p e lt free = subst (λ x. IsPermutation ((g, p) ∷ pieces_with_places (a + 1) places) ((x, p) ∷ pieces_with_places (a + 1) places)) (let same : g ≡ a = omega arith in same) (IsPermutation-refl ((g, p) ∷ pieces_with_places (a + 1) places))
set_one (Some q ∷ places) zero a g p e lt free = absurd cc
set_one (None ∷ places) (suc k) a g p e lt free = set_one places k (a + 1) g p (omega arith) (omega arith) free
set_one (Some q ∷ places) (suc k) a g p e lt free =
    let new = pieces_with_places (a + 1) (set places k (Some p)) in
    IsPermutation-trans ((g, p) ∷ (a, q) ∷ pieces_with_places (a + 1) places) ((a, q) ∷ (g, p) ∷ pieces_with_places (a + 1) places) ((a, q) ∷ new)
    (IsPermutation-sym ((a, q) ∷ (g, p) ∷ pieces_with_places (a + 1) places) ((g, p) ∷ (a, q) ∷ pieces_with_places (a + 1) places) (IsPermutation-middle ((a, q) ∷ []) (g, p) (pieces_with_places (a + 1) places)))
    (IsPermutation-cons (a, q) ((g, p) ∷ pieces_with_places (a + 1) places) new (set_one places k (a + 1) g p (omega arith) (omega arith) free))

pub same_next : (pieces : List (ℕ × Piece)) (places : List (Option Piece)) (g : ℕ) (p : Piece) (rest : List (ℕ × Piece)) → g < length places → is_filled places g ≡ false
    → IsPermutation pieces (pieces_with_places 0 places ++ (g, p) ∷ rest) → IsPermutation pieces (pieces_with_places 0 (set places g (Some p)) ++ rest)
same_next pieces places g p rest lt free same =
    let old = pieces_with_places 0 places in
    let new = pieces_with_places 0 (set places g (Some p)) in
    IsPermutation-trans pieces (old ++ (g, p) ∷ rest) (new ++ rest) same
    (IsPermutation-trans (old ++ (g, p) ∷ rest) ((g, p) ∷ (old ++ rest)) (new ++ rest) (IsPermutation-middle old (g, p) rest)
    (IsPermutation-append_left rest ((g, p) ∷ old) new (set_one places g 0 g p (omega arith) lt free)))

-- where no place is empty
pub standing_all : (a : ℕ) (ps : List Piece) → pieces_with_places a (map Some ps) ≡ pieces_with_groups a ps
standing_all a [] = refl
standing_all a (p ∷ ps) = ap (λ l. (a, p) ∷ l) (standing_all (a + 1) ps)
