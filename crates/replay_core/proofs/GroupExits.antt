-- The first exit of a run is that of its groups.
use Rattle.std.proofs.Common.{◌≡◌, ◌≢◌, ℕ, zero, suc, ◌+◌, ◌<◌, ◌≤◌, cond, List, [], ◌∷◌, Option}
use Rattle.std.proofs.Common.{None, Some, map, refl, sym, ap, ◌∙◌, subst, ⊎_elim, arith, ltb}
use Rattle.std.proofs.Common.{option_map, le-ltb, lt-ltb}
use Rattle.std.specs.List.{range_with_len}
use Rattle.std.proofs.lemmas.Bool.{cases_eq, cond_both}
use Rattle.replay_core.specs.Vocabulary.{option_or, Made, Firing}
use Rattle.replay_core.specs.Meaning.{exit_of}
use Rattle.replay_core.specs.Uniting.{sooner, first_exit}
use Rattle.replay_core.proofs.GroupSums.{AllIn, own_group, part, passed, taken}
use Rattle.replay_core.proofs.GroupTexts.{Over, Climbs, over_less, over_climbs, over_part}

-- the exit has a greater number, if there is one
abbrev pub Later : ℕ → Option (ℕ × ℕ) → Type 0
Later n None = Unit {0}
Later n (Some exit) = n < exit.0

-- an exit stays the first before and after later ones
stays_before : (e : ℕ × ℕ) (x : Option (ℕ × ℕ)) → Later e.0 x → sooner (Some e) x ≡ Some e
stays_before e None lt = refl
stays_before e (Some x) lt = ap (λ b. cond b (Some x) (Some e)) (le-ltb x.0 e.0 (omega arith))

stays_after : (e : ℕ × ℕ) (x : Option (ℕ × ℕ)) → Later e.0 x → sooner x (Some e) ≡ Some e
stays_after e None lt = refl
stays_after e (Some x) lt = ap (λ b. cond b (Some e) (Some x)) (lt-ltb e.0 x.0 lt)

both_later : (n : ℕ) (x y : Option (ℕ × ℕ)) → Later n x → Later n y → Later n (sooner x y)
both_later n None y a b = b
both_later n (Some x) None a b = a
both_later n (Some x) (Some y) a b = cond_both (ltb y.0 x.0) (Some y) (Some x) (Later n) (λ yes. b) (λ no. a)

later_past : (F : ℕ → Option (ℕ × ℕ)) (number a n m : ℕ) → m < a → ((k : ℕ) → k ≢ m → Later number (F k)) → Later number (first_exit (map F (range_with_len a n)))
later_past F number a zero m lt later = tt
later_past F number a (suc n) m lt later = both_later number (F a) (first_exit (map F (range_with_len (a + 1) n))) (later a (λ e. omega arith)) (later_past F number (a + 1) n m (omega arith) later)

first_at : (F : ℕ → Option (ℕ × ℕ)) (e : ℕ × ℕ) (a n m : ℕ) → a ≤ m → m < a + n → F m ≡ Some e → ((k : ℕ) → k ≢ m → Later e.0 (F k)) → first_exit (map F (range_with_len a n)) ≡ Some e
first_at F e a zero m le lt at later = absurd (omega arith)
first_at F e a (suc n) m le lt at later = ⊎_elim
    (λ (same : a ≡ m).
    let rest = first_exit (map F (range_with_len (a + 1) n)) in
    ap (λ x. sooner x rest) (ap F same ∙ at) ∙ stays_before e rest (later_past F e.0 (a + 1) n m (omega arith) later))
    (λ (ne : a ≢ m).
    ap (λ x. sooner (F a) x) (first_at F e (a + 1) n m (omega arith) (omega arith) at later) ∙ stays_after e (F a) (later a ne))
    (cases_eq a m)

first_none : (a n : ℕ) → first_exit (map (λ g. None) (range_with_len a n)) ≡ None
first_none a zero = refl
first_none a (suc n) = first_none (a + 1) n

pub map_same : {A B : Type 0} (f g : A → B) (xs : List A) → ((x : A) → f x ≡ g x) → map f xs ≡ map g xs
map_same {A} {B} f g xs same = ap (λ (h : A → B). map h xs) (λ i x. same x i)

exit_later : (n : ℕ) (r : List (Firing × Made)) → Over n r → Later n (exit_of r)
exit_later n [] over = tt
exit_later n (x ∷ r) over = elim (x.1.exit) as (λ o. Later n (option_or (option_map (λ status. (x.0.number, status)) o) (exit_of r))) [
  | None ↦ exit_later n r (over_less n x.0.number r (let lt = over.0 in omega arith) over.1)
  | Some status ↦ over.0
]

pub exits_unite : (group : Firing × Made → Option ℕ) (n : ℕ) (r : List (Firing × Made)) → Climbs r → AllIn group n r → first_exit (map (λ g. exit_of (part group g r)) (range_with_len 0 n)) ≡ exit_of r
exits_unite group n [] up each = first_none 0 n
exits_unite group n (x ∷ r) up each =
    let own = own_group n (group x) (each 0 x (omega arith)) in
    let F : ℕ → Option (ℕ × ℕ) = λ g. exit_of (part group g (x ∷ r)) in
    let G : ℕ → Option (ℕ × ℕ) = λ g. exit_of (part group g r) in
    let at : Option ℕ → Option (ℕ × ℕ) → Option (ℕ × ℕ) = λ o next. option_or (option_map (λ status. (x.0.number, status)) o) next in
    let mine : F own.0 ≡ at x.1.exit (G own.0) = ap exit_of (taken group own.0 x r own.2) in
    let others : (g : ℕ) → g ≢ own.0 → F g ≡ G g = λ g ne. ap exit_of (passed group g x r (own.3 g ne)) in
    let more = exits_unite group n r (over_climbs x.0.number r up) (λ k d lt. each (suc k) d (omega arith)) in
    (elim (x.1.exit) as (λ o. x.1.exit ≡ o → first_exit (map F (range_with_len 0 n)) ≡ at x.1.exit (exit_of r)) [
      | None ↦ λ is.
          ap first_exit (map_same F G (range_with_len 0 n) (λ g. ⊎_elim
          (λ (e : g ≡ own.0). subst (λ j. F j ≡ G j) (sym e) (mine ∙ ap (λ o. at o (G own.0)) is))
          (λ (ne : g ≢ own.0). others g ne)
          (cases_eq g own.0)))
          ∙ more ∙ sym (ap (λ o. at o (exit_of r)) is)
      | Some s ↦ λ is.
          first_at F (x.0.number, s) 0 n own.0 (omega arith) (let lt = own.1 in omega arith) (mine ∙ ap (λ o. at o (G own.0)) is)
          (λ k ne. subst (λ o. Later x.0.number o) (sym (others k ne)) (exit_later x.0.number (part group k r) (over_part group k x.0.number r up)))
          ∙ sym (ap (λ o. at o (exit_of r)) is)
    ]) refl
