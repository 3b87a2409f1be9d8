-- Steps of placing pieces.
use Rattle.std.proofs.Common.{◌≡◌, ℕ, zero, suc, ◌<◌, ◌≤◌, ◌==◌, Bool, true, false, cond, List, []}
use Rattle.std.proofs.Common.{◌∷◌, length, get_or, ◌++◌, set, Option, None, Some, is_some, refl}
use Rattle.std.proofs.Common.{sym, ap, ◌∙◌, ⊎_elim, eq-eqb, ne_eqb, lt-ltb, le-ltb}
use Rattle.std.proofs.Common.{get_or-set_other}
use Rattle.std.proofs.lemmas.Bool.{cases_eq}
use Rattle.std.proofs.lemmas.Grind.{get_or-set_at}
use Rattle.replay_core.specs.declared.lanes.piece.Piece.{Piece}
use Rattle.replay_core.specs.declared.collect_fault.CollectFault.{CollectFault}
use Rattle.replay_core.specs.declared.collect_fault.CollectFault.TheVariants.{Twice, Stranger}
use Rattle.replay_core.specs.declared.collect_fault.CollectFault.TheVariants.{Memory}
use Rattle.replay_core.specs.Steps.PiecePlaces.{IsFault, is_filled}
use Rattle.replay_core.specs.Collecting.{first_bad, first_bad_after}

bad_congr : (n : ℕ) (had other : ℕ → Bool) → ((g : ℕ) → had g ≡ other g) → (ps : List (ℕ × Piece)) → first_bad_after had n ps ≡ first_bad_after other n ps
bad_congr n had other same ps = ap (λ (h : ℕ → Bool). first_bad_after h n ps) (λ i g. same g i)

filled_set : (places : List (Option Piece)) (g : ℕ) (p : Piece) → g < length places → (u : ℕ) → cond (u == g) true (is_filled places u) ≡ is_filled (set places g (Some p)) u
filled_set places g p lt u = ⊎_elim
    (λ (e : u ≡ g). ap (λ b. cond b true (is_filled places u)) (eq-eqb u g e) ∙ sym (ap is_some (get_or-set_at places g u (Some p) None e lt)))
    (λ (ne : u ≡ g → ⊥). ap (λ b. cond b true (is_filled places u)) (ne_eqb u g ne) ∙ sym (ap is_some (get_or-set_other places g u (Some p) None ne)))
    (cases_eq u g)

pub bad_next : (n : ℕ) (places : List (Option Piece)) (g : ℕ) (p : Piece) (rest : List (ℕ × Piece)) → g < n → g < length places → is_filled places g ≡ false
    → first_bad_after (is_filled places) n ((g, p) ∷ rest) ≡ first_bad_after (is_filled (set places g (Some p))) n rest
bad_next n places g p rest lt in' free =
    ap (λ b. cond b (cond (is_filled places g) (Some (Twice g)) (first_bad_after (λ u. cond (u == g) true (is_filled places u)) n rest)) (Some (Stranger g))) (lt-ltb g n lt)
    ∙ ap (λ b. cond b (Some (Twice g)) (first_bad_after (λ u. cond (u == g) true (is_filled places u)) n rest)) free
    ∙ bad_congr n (λ u. cond (u == g) true (is_filled places u)) (is_filled (set places g (Some p))) (filled_set places g p in') rest

pub bad_stranger : (n : ℕ) (had : ℕ → Bool) (g : ℕ) (p : Piece) (rest : List (ℕ × Piece)) → n ≤ g → first_bad_after had n ((g, p) ∷ rest) ≡ Some (Stranger g)
bad_stranger n had g p rest le = ap (λ b. cond b (cond (had g) (Some (Twice g)) (first_bad_after (λ u. cond (u == g) true (had u)) n rest)) (Some (Stranger g))) (le-ltb g n le)

pub bad_twice : (n : ℕ) (had : ℕ → Bool) (g : ℕ) (p : Piece) (rest : List (ℕ × Piece)) → g < n → had g ≡ true → first_bad_after had n ((g, p) ∷ rest) ≡ Some (Twice g)
bad_twice n had g p rest lt e =
    ap (λ b. cond b (cond (had g) (Some (Twice g)) (first_bad_after (λ u. cond (u == g) true (had u)) n rest)) (Some (Stranger g))) (lt-ltb g n lt)
    ∙ ap (λ b. cond b (Some (Twice g)) (first_bad_after (λ u. cond (u == g) true (had u)) n rest)) e

-- nothing is filled at first
pub bad_start : (n : ℕ) (places : List (Option Piece)) → ((k : ℕ) → get_or places k None ≡ None) → (ps : List (ℕ × Piece)) → first_bad n ps ≡ first_bad_after (is_filled places) n ps
bad_start n places none ps = bad_congr n (λ g. false) (is_filled places) (λ g. sym (ap is_some (none g))) ps

pub none_pushed : (places : List (Option Piece)) → ((k : ℕ) → get_or places k None ≡ None) → (k : ℕ) → get_or (places ++ None ∷ []) k None ≡ None
none_pushed [] none zero = refl
none_pushed [] none (suc k) = refl
none_pushed (x ∷ xs) none zero = none 0
none_pushed (x ∷ xs) none (suc k) = none_pushed xs (λ j. none (suc j)) k

-- a fault that isn't of memory is the one that there is
pub fault_is : (e : CollectFault) (bad : Option CollectFault) → bad ≡ Some e → IsFault e bad
fault_is Memory bad is = tt
fault_is e bad is = is
