-- Which fault the collector returns, and that sorted pieces can be merged as the pieces could.
use Rattle.std.proofs.Common.{◌≡◌, ◌≢◌, ℕ, suc, ◌+◌, ◌==◌, ◌<◌, ◌≤◌, Bool, true, false, cond, List}
use Rattle.std.proofs.Common.{[], ◌∷◌, All, Contains, Option, None, Some, length, map, refl, sym}
use Rattle.std.proofs.Common.{ap, subst, ⊎_elim, arith, ltb, sum_by, IsPermutation}
use Rattle.std.proofs.lemmas.List.Sorted.{IsPermutation-sym, IsPermutation-map, All-permutation}
use Rattle.std.proofs.lemmas.List.Sorted.{Contains-permutation, sum_by-IsPermutation}
use Rattle.std.proofs.lemmas.Bool.{cases_eq, cond_both}
use Rattle.shard_queue.proofs.Lists.{all_cons}
use Rattle.replay_core.specs.Vocabulary.{AggFn, functions_of, count_held}
use Rattle.replay_core.specs.declared.lanes.piece.Piece.{Piece}
use Rattle.replay_core.specs.declared.collect_fault.CollectFault.{CollectFault}
use Rattle.replay_core.specs.declared.collect_fault.CollectFault.TheVariants.{Twice, Stranger}
use Rattle.replay_core.specs.declared.collect_fault.CollectFault.TheVariants.{Missing, Memory}
use Rattle.replay_core.specs.Steps.PiecePlaces.{first_missing, pieces_with_places, IsFault}
use Rattle.replay_core.specs.Tables.{Table, AllHave, CanMerge}
use Rattle.replay_core.specs.Collecting.{first_bad, first_bad_after, pieces_with_groups, tables_of}
use Rattle.replay_core.specs.Collecting.{IsCollectFault}

-- a bad piece is no missing one
not_missing : (n : ℕ) (had : ℕ → Bool) (ps : List (ℕ × Piece)) (g : ℕ) → first_bad_after had n ps ≡ Some (Missing g) → ⊥
not_missing n had [] g e = cc
not_missing n had (p ∷ ps) g e =
    let next = λ (u : ℕ). cond (u == p.0) true (had u) in
    let No : Option CollectFault → Type 0 = λ o. o ≡ Some (Missing g) → ⊥ in
    let own : No (cond (had p.0) (Some (Twice p.0)) (first_bad_after next n ps)) = cond_both (had p.0) (Some (Twice p.0)) (first_bad_after next n ps) No (λ yes x. cc) (λ no x. not_missing n next ps g x) in
    cond_both (ltb p.0 n) (cond (had p.0) (Some (Twice p.0)) (first_bad_after next n ps)) (Some (Stranger p.0)) No (λ yes. own) (λ no x. cc) e

pub fault_bad : (n : ℕ) (ps : List (ℕ × Piece)) (e : CollectFault) → IsFault e (first_bad n ps) → IsCollectFault n ps e
fault_bad n ps (Missing g) is = absurd (not_missing n (λ g. false) ps g is)
fault_bad n ps Memory is = tt
fault_bad n ps e is = is

-- what stands from here on has no lesser number
standing_from : (a : ℕ) (places : List (Option Piece)) → All (λ p. a ≤ p.0) (pieces_with_places a places)
standing_from a [] = λ k d lt. absurd (omega arith)
standing_from a (None ∷ places) = λ k d lt. let le = standing_from (a + 1) places k d lt in omega arith
standing_from a (Some q ∷ places) = all_cons (λ p. a ≤ p.0) (a, q) (pieces_with_places (a + 1) places) (omega arith) (λ k d lt. let le = standing_from (a + 1) places k d lt in omega arith)

missing_at : (a : ℕ) (places : List (Option Piece)) (g : ℕ) → first_missing a places ≡ Some (Missing g)
    → (a ≤ g) × (g < a + length places) × All (λ p. p.0 ≢ g) (pieces_with_places a places) × ((less : ℕ) → a ≤ less → less < g → (p : Piece) × Contains (pieces_with_places a places) (less, p))
missing_at a [] g e = absurd cc
missing_at a (None ∷ places) g e =
    let here : a ≡ g = cc in
    (omega arith, omega arith, λ k d lt same. let le = standing_from (a + 1) places k d lt in omega arith, λ less le lt. absurd (omega arith))
missing_at a (Some q ∷ places) g e =
    let more = missing_at (a + 1) places g e in
    let over = more.0 in
    let below = more.1 in (
      omega arith,
      omega arith,
      all_cons (λ p. p.0 ≢ g) (a, q) (pieces_with_places (a + 1) places) (λ same. omega arith) more.2,
      λ less le lt. ⊎_elim
          (λ (same : less ≡ a). (q, (0, omega arith, ap (λ x. (x, q)) (sym same))))
          (λ (ne : less ≢ a). let there = more.3 less (omega arith) lt in (there.0, (suc there.1.0, let in' = there.1.1 in omega arith, there.1.2)))
          (cases_eq less a),
    )

missing_only : (a : ℕ) (places : List (Option Piece)) (e : CollectFault) → first_missing a places ≡ Some e → (g : ℕ) × (e ≡ Missing g)
missing_only a [] e is = absurd cc
missing_only a (None ∷ places) e is = (a, cc)
missing_only a (Some q ∷ places) e is = missing_only (a + 1) places e is

pub fault_missing : (n : ℕ) (ps : List (ℕ × Piece)) (places : List (Option Piece)) (e : CollectFault) → length places ≡ n → first_bad n ps ≡ None → IsPermutation ps (pieces_with_places 0 places)
    → IsFault e (first_missing 0 places) → IsCollectFault n ps e
fault_missing n ps places Memory len good same is = tt
fault_missing n ps places (Twice g) len good same is = absurd (let m = missing_only 0 places (Twice g) is in let x = m.1 in cc)
fault_missing n ps places (Stranger g) len good same is = absurd (let m = missing_only 0 places (Stranger g) is in let x = m.1 in cc)
fault_missing n ps places (Missing g) len good same is =
    let m = missing_at 0 places g is in
    let back = IsPermutation-sym ps (pieces_with_places 0 places) same in (
      good,
      record {
        below = let lt = m.1 in omega arith;
        none = All-permutation (λ p. p.0 ≢ g) (pieces_with_places 0 places) ps back m.2;
        others = λ less lt. let there = m.3 less (omega arith) lt in (there.0, Contains-permutation (pieces_with_places 0 places) ps (less, there.0) back there.1);
      },
    )

-- tables in another order
have_all : (f : List AggFn) (ts : List Table) → AllHave f ts → All (λ t. functions_of t ≡ f) ts
have_all f [] have = λ k d lt. absurd (omega arith)
have_all f (t ∷ ts) have = all_cons (λ u. functions_of u ≡ f) t ts have.0 (have_all f ts have.1)

pub all_have : (f : List AggFn) (ts : List Table) → All (λ t. functions_of t ≡ f) ts → AllHave f ts
all_have f [] each = tt
all_have f (t ∷ ts) each = (each 0 t (omega arith), all_have f ts (λ k d lt. each (suc k) d (omega arith)))

pub tables_numbered : (a : ℕ) (ps : List Piece) → tables_of (pieces_with_groups a ps) ≡ map (λ p. p.table) ps
tables_numbered a [] = refl
tables_numbered a (p ∷ ps) = ap (λ l. p.table ∷ l) (tables_numbered (a + 1) ps)

pub can_sorted : (ps : List (ℕ × Piece)) (sorted : List Piece) → IsPermutation ps (pieces_with_groups 0 sorted) → CanMerge (tables_of ps) → CanMerge (map (λ p. p.table) sorted)
can_sorted ps sorted same can =
    let moved = IsPermutation-map (λ p. p.1.table) ps (pieces_with_groups 0 sorted) same in
    let ts = tables_of (pieces_with_groups 0 sorted) in
    let f = can.0.0 in
    let have = all_have f ts (All-permutation (λ t. functions_of t ≡ f) (tables_of ps) ts moved (have_all f (tables_of ps) can.0.1)) in
    let held = sum_by-IsPermutation count_held (tables_of ps) ts moved in
    let few = can.1 in
    subst CanMerge (tables_numbered 0 sorted) ((f, have), let le : sum_by count_held ts ≤ 4503599627370496 = omega arith in le)
