-- Clauses that run several times in a row.
use Rattle.std.proofs.Common.{◌≡◌, ℕ, zero, suc, ◌+◌, List, [], ◌∷◌, ◌++◌, length, get_or, set, ◌<◌}
use Rattle.std.proofs.Common.{◌==◌, ◌&&◌, All, ne_eqb, refl, sym, ap, ap₂, ◌∙◌, arith, append_assoc}
use Rattle.std.proofs.Common.{append-nil, Decides, replicate, length-append}
use Rattle.std.proofs.lemmas.Bool.Decides.{Decides-and, Decides-eqb, Decides-like}
use Rattle.std.proofs.lemmas.List.{length-replicate, replicate_more}
use Rattle.replay_core.specs.declared.selection.clause_indices.Repeat.{Repeat}
use Rattle.replay_core.specs.Indices.{indices_in_turn}

-- each runs at least once
abbrev pub AreTaken : List Repeat → Type 0
AreTaken all = All (λ r. 0 < r.times) all

-- the last runs once more
pub once_more : (all : List Repeat) (i : ℕ) (r : Repeat) → length all ≡ i + 1 → r ≡ get_or all i r
    → indices_in_turn (set all i (record { index = r.index; times = r.times + 1 })) ≡ indices_in_turn all ++ r.index ∷ []
once_more [] i r len last = absurd (omega arith)
once_more (x ∷ []) zero r len last =
    append-nil (replicate (r.times + 1) r.index) ∙ sym (replicate_more r.times r.index)
    ∙ ap (λ l. l ++ r.index ∷ []) (sym (append-nil (replicate r.times r.index)) ∙ ap (λ (x : Repeat). replicate x.times x.index ++ []) last)
once_more (x ∷ y ∷ rest) zero r len last = absurd (omega arith)
once_more (x ∷ rest) (suc i) r len last =
    ap (λ l. replicate x.times x.index ++ l) (once_more rest i r (omega arith) last)
    ∙ sym (append_assoc (replicate x.times x.index) (indices_in_turn rest) (r.index ∷ []))

abbrev pub repeat_of : ℕ → ℕ → Repeat
repeat_of index times = record { index = index; times = times }

pub repeats_same : (a b : Repeat) → Decides (a.index == b.index && a.times == b.times) (a ≡ b)
repeats_same a b =
    let each = Decides-and (a.index == b.index) (a.times == b.times) (Decides-eqb a.index b.index) (Decides-eqb a.times b.times) in
    let are : (a.index ≡ b.index) × (a.times ≡ b.times) → a ≡ b = λ e. ap₂ repeat_of e.0 e.1 in
    let each_is : a ≡ b → (a.index ≡ b.index) × (a.times ≡ b.times) = λ e. (ap (λ (r : Repeat). r.index) e, ap (λ (r : Repeat). r.times) e) in
    Decides-like (a.index == b.index && a.times == b.times) are each_is each

-- where there is a clause it runs
pub none_at_all : (all : List Repeat) → AreTaken all → (length all == 0) ≡ (length (indices_in_turn all) == 0)
none_at_all [] taken = refl
none_at_all (r ∷ rest) taken =
    let here : 0 < r.times = taken 0 r (omega arith) in
    let all = length-append (replicate r.times r.index) (indices_in_turn rest) in
    let front = length-replicate r.times r.index in
    let some : length (r ∷ rest) ≡ 0 → ⊥ = λ e. omega arith in
    let some_in_turn : length (indices_in_turn (r ∷ rest)) ≡ 0 → ⊥ = λ e. omega (arith, all, front, here) in
    ne_eqb (length (r ∷ rest)) 0 some ∙ sym (ne_eqb (length (indices_in_turn (r ∷ rest))) 0 some_in_turn)
