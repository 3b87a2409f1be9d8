-- Lists of indices, merged.
use Rattle.std.proofs.Common.{◌≡◌, ◌⊎◌, ℕ, zero, suc, ◌<◌, ◌≤◌, Bool, true, false, cond, ◌||◌, List}
use Rattle.std.proofs.Common.{[], ◌∷◌, ◌++◌, filter, map, length, take, drop, get_or, refl, sym, ap}
use Rattle.std.proofs.Common.{ap₂, ◌∙◌, subst, ⊎_elim, arith, append_assoc, nat_lt, if◌then◌else◌}
use Rattle.std.proofs.lemmas.Bool.{cases_order, cond_both}
use Rattle.std.proofs.lemmas.Bool.Decides.{nat_tests}
use Rattle.replay_core.specs.Steps.Indices.{front_below, merge, rest_from}

pub merged_none : (ps : List ℕ) → merge ps [] ≡ ps
merged_none [] = refl
merged_none (p ∷ ps) = ap (λ l. p ∷ l) (merged_none ps)

-- one index more
pub merged_more : (done new newer : List ℕ) (index : ℕ) (rest more left front all : List ℕ) → front ≡ front_below index more → left ≡ rest_from index more
    → new ≡ done ++ front → newer ≡ new ++ index ∷ [] → done ++ merge (index ∷ rest) more ≡ all → newer ++ merge rest left ≡ all
merged_more done new newer index rest more left front all is after one two so_far =
    ap₂ (λ l m. l ++ merge rest m) (two ∙ ap (λ l. l ++ index ∷ []) (one ∙ ap (λ l. done ++ l) is)) after
    ∙ append_assoc (done ++ front_below index more) (index ∷ []) (merge rest (rest_from index more))
    ∙ append_assoc done (front_below index more) (index ∷ merge rest (rest_from index more)) ∙ so_far

-- ---- the front below an index

at_lower : (index p : ℕ) (ps : List ℕ) → p < index → (front_below index (p ∷ ps) ≡ p ∷ front_below index ps) × (rest_from index (p ∷ ps) ≡ rest_from index ps)
at_lower index p ps lt =
    let is : nat_lt p index ≡ true = grind (arith, nat_tests) in
    (ap (λ b. if b then p ∷ front_below index ps else []) is, ap (λ b. if b then rest_from index ps else p ∷ ps) is)

at_higher : (index p : ℕ) (ps : List ℕ) → index ≤ p → (front_below index (p ∷ ps) ≡ []) × (rest_from index (p ∷ ps) ≡ p ∷ ps)
at_higher index p ps le =
    let is : nat_lt p index ≡ false = grind (arith, nat_tests) in
    (ap (λ b. if b then p ∷ front_below index ps else []) is, ap (λ b. if b then rest_from index ps else p ∷ ps) is)

-- the first i are below the index, and the next one isn't
pub cut_at : (index : ℕ) (ps : List ℕ) (i : ℕ) → ((k : ℕ) → k < i → get_or ps k 0 < index) → (i < length ps → index ≤ get_or ps i 0)
    → i ≤ length ps → (take i ps ≡ front_below index ps) × (drop i ps ≡ rest_from index ps)
cut_at index [] zero low high le = (refl, refl)
cut_at index [] (suc i) low high le = absurd (omega arith)
cut_at index (p ∷ ps) zero low high le =
    let at = at_higher index p ps (high (omega arith)) in (sym at.0, sym at.1)
cut_at index (p ∷ ps) (suc i) low high le =
    let at = at_lower index p ps (low 0 (omega arith)) in
    let rest = cut_at index ps i (λ k lt. low (suc k) (omega arith)) (λ lt. high (omega arith)) (omega arith) in
    (ap (λ l. p ∷ l) rest.0 ∙ sym at.0, rest.1 ∙ sym at.1)

-- ---- lists that rise

-- none is less
abbrev pub AreFrom : ℕ → List ℕ → Type 0
AreFrom n [] = Unit {0}
AreFrom n (p ∷ ps) = (n ≤ p) × AreFrom n ps

at_front : (n : ℕ) (ps : List ℕ) → AreFrom n ps → (front_below n ps ≡ []) × (rest_from n ps ≡ ps)
at_front n [] are = (refl, refl)
at_front n (p ∷ ps) are = at_higher n p ps are.0

first_of_right : (n : ℕ) (ps more : List ℕ) → AreFrom n ps → AreFrom n more → merge ps (n ∷ more) ≡ n ∷ merge ps more
first_of_right n [] more are on = refl
first_of_right n (p ∷ ps) more are on = ⊎_elim
    (λ (same : n ≡ p).
    let at = at_higher p n more (omega arith) in
    let up = at_front p more (subst (λ k. AreFrom k more) same on) in
    ap₂ (λ f l. f ++ p ∷ merge ps l) at.0 at.1
    ∙ ap (λ l. p ∷ l) (first_of_right n ps more are.1 on)
    ∙ ap (λ k. k ∷ n ∷ merge ps more) (sym same)
    ∙ ap (λ k. n ∷ k ∷ merge ps more) same
    ∙ ap (λ l. n ∷ l) (sym (ap₂ (λ f l. f ++ p ∷ merge ps l) up.0 up.1)))
    (λ (other : (n < p) ⊎ (p < n)). ⊎_elim
    (λ (lt : n < p). let at = at_lower p n more lt in ap₂ (λ f l. f ++ p ∷ merge ps l) at.0 at.1)
    (λ (gt : p < n). absurd (let le = are.0 in omega arith))
    other)
    (cases_order n p)

module _ {X : Type 0} (index : X → ℕ) where
  -- the indices do not fall
  abbrev pub Rise : List X → Type 0
  Rise [] = Unit {0}
  Rise (x ∷ xs) = AreFrom (index x) (map index xs) × Rise xs

  from_some : (n : ℕ) (test : X → Bool) (xs : List X) → AreFrom n (map index xs) → AreFrom n (map index (filter test xs))
  from_some n test [] are = tt
  from_some n test (x ∷ xs) are =
      let more = from_some n test xs are.1 in
      cond_both (test x) (x ∷ filter test xs) (filter test xs) (λ l. AreFrom n (map index l)) (λ yes. (are.0, more)) (λ no. more)

  -- those that pass one test merged with those that pass another
  pub merges : (one other both : X → Bool) → ((x : X) → both x ≡ (one x || other x)) → ((x : X) → one x ≡ true → other x ≡ false)
      → (xs : List X) → Rise xs → merge (map index (filter one xs)) (map index (filter other xs)) ≡ map index (filter both xs)
  merges one other both or apart [] rise = refl
  merges one other both or apart (x ∷ xs) rise =
      here (one x) (other x) (apart x) (merges one other both or apart xs rise.1)
      ∙ ap (λ b. map index (cond b (x ∷ filter both xs) (filter both xs))) (sym (or x))
    where
      here : (a b : Bool) → (a ≡ true → b ≡ false) → merge (map index (filter one xs)) (map index (filter other xs)) ≡ map index (filter both xs)
          → merge (map index (cond a (x ∷ filter one xs) (filter one xs))) (map index (cond b (x ∷ filter other xs) (filter other xs)))
          ≡ map index (cond (a || b) (x ∷ filter both xs) (filter both xs))
      here true true not more = absurd (let e = not refl in cc)
      here true false not more =
          let at = at_front (index x) (map index (filter other xs)) (from_some (index x) other xs rise.0) in
          ap₂ (λ f l. f ++ index x ∷ merge (map index (filter one xs)) l) at.0 at.1 ∙ ap (λ l. index x ∷ l) more
      here false true not more =
          first_of_right (index x) (map index (filter one xs)) (map index (filter other xs)) (from_some (index x) one xs rise.0) (from_some (index x) other xs rise.0)
          ∙ ap (λ l. index x ∷ l) more
      here false false not more = more
