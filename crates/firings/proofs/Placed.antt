-- The indices where others are.
use Rattle.std.proofs.Common.{◌≡◌, ◌<◌, ℕ, zero, suc, List, [], ◌∷◌, ◌++◌, length, get_or, Some}
use Rattle.std.proofs.Common.{refl, sym, ap, ◌∙◌, arith}
use Rattle.std.specs.Prelude.{slice_get}
use Rattle.std.proofs.lemmas.List.{length-map, map-append}
use Rattle.firings.specs.Stored.{AreIndices, Extends}
use Rattle.firings.proofs.Stored.{named_more}

indices_more : {X : Type 0} (t u : List X) (ps : List ℕ) (ts : List X) → Extends t u → AreIndices t ps ts → AreIndices u ps ts
indices_more t u [] [] e is = refl
indices_more t u [] (x ∷ xs) e is = absurd cc
indices_more t u (p ∷ ps) [] e is = absurd cc
indices_more t u (p ∷ ps) (x ∷ xs) e is =
    let first : slice_get t p ≡ Some x = cc in
    let more : AreIndices t ps xs = cc in
    rw (named_more t u p x e first, indices_more t u ps xs e more) refl

-- one index more
pub index_more : {X : Type 0} (t u : List X) (ps : List ℕ) (ts : List X) (p : ℕ) (x : X) → Extends t u → AreIndices t ps ts → slice_get u p ≡ Some x
    → AreIndices u (ps ++ p ∷ []) (ts ++ x ∷ [])
index_more {X} t u ps ts p x e are is =
    rw (map-append (slice_get u) ps (p ∷ []), map-append (λ (l : X). Some l) ts (x ∷ []), indices_more t u ps ts e are, is) refl

pub placed : {X : Type 0} (u : List X) (ps : List ℕ) (ts : List X) (i : ℕ) (d : X) → AreIndices u ps ts → i < length ts → slice_get u (get_or ps i 0) ≡ Some (get_or ts i d)
placed u ps [] i d are lt = absurd (omega arith)
placed u [] (x ∷ xs) i d are lt = absurd cc
placed u (p ∷ ps) (x ∷ xs) zero d are lt = cc
placed u (p ∷ ps) (x ∷ xs) (suc i) d are lt =
    let more : AreIndices u ps xs = cc in
    placed u ps xs i d more (omega arith)

pub as_many : {X : Type 0} (u : List X) (ps : List ℕ) (ts : List X) → AreIndices u ps ts → length ps ≡ length ts
as_many {X} u ps ts are =
    let some = length-map ps (slice_get u) in
    let all = length-map ts (λ (l : X). Some l) in
    sym some ∙ ap length are ∙ all
