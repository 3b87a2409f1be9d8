-- Where numbers rise, the first exit is the least.
use Rattle.std.proofs.Common.{◌≡◌, ◌⊎◌, ◌↔◌, ◌<◌, ℕ, zero, suc, List, [], ◌∷◌, map, Contains}
use Rattle.std.proofs.Common.{Option, None, Some, option_map, refl, ap, subst, ⊎_elim, inl, inr}
use Rattle.std.proofs.Common.{arith}
use Rattle.std.proofs.lemmas.List.Elements.{Contains-append_right}
use Rattle.std.proofs.lemmas.Option.{same_Some}
use Rattle.replay_core.specs.Vocabulary.{option_or, Firing, IsStrictlyIncreasing, Made, ScriptMeant}
use Rattle.replay_core.specs.Vocabulary.{number_of}
use Rattle.replay_core.specs.Exit.{IsLeastExit, exits_of}
use Rattle.replay_core.specs.Meaning.{Threads, exit_of, history}
use Rattle.replay_core.proofs.GroupTexts.{Climbs, Over, climbs_history, over_climbs}

among : {A : Type 0} (x : A) (xs : List A) (y : A) → Contains (x ∷ xs) y → (x ≡ y) ⊎ Contains xs y
among x xs y (zero, less, is) = inl is
among x xs y (suc k, less, is) = inr (k, omega arith, is)

all_late : (n : ℕ) (r : List (Firing × Made)) → Over n r → (exit : ℕ × ℕ) → Contains (exits_of r) (Some exit) → n < exit.0
all_late n [] over exit there = let less = there.1 in absurd (omega arith)
all_late n (x ∷ r) over exit there =
    let less = over.0 in
    ⊎_elim (its_number x.1.exit) (λ later. let more = all_late x.0.number r over.1 exit later in omega arith)
    (among (option_map (λ status. (x.0.number, status)) x.1.exit) (exits_of r) (Some exit) there)
  where
    its_number : (o : Option ℕ) → option_map (λ status. (x.0.number, status)) o ≡ Some exit → n < exit.0
    its_number None e = absurd cc
    its_number (Some status) e = let number = ap (λ (y : ℕ × ℕ). y.0) (same_Some (x.0.number, status) exit e) in let less = over.0 in omega arith

first_is_least : (r : List (Firing × Made)) → Climbs r → (exit : ℕ × ℕ) → (exit_of r ≡ Some exit) ↔ IsLeastExit (exits_of r) exit
first_is_least [] up exit = (λ e. absurd cc, λ h. let less = h.one.1 in absurd (omega arith))
first_is_least (x ∷ r) up exit = here x.1.exit (first_is_least r (over_climbs x.0.number r up) exit)
  where
    here : (o : Option ℕ) → (exit_of r ≡ Some exit) ↔ IsLeastExit (exits_of r) exit
        → (option_or (option_map (λ status. (x.0.number, status)) o) (exit_of r) ≡ Some exit) ↔ IsLeastExit (option_map (λ status. (x.0.number, status)) o ∷ exits_of r) exit
    here None rest = (
      λ e. record {
        one = Contains-append_right (None ∷ []) (exits_of r) (Some exit) (rest.0 e).one;
        least = λ other there. ⊎_elim (λ c. absurd cc) ((rest.0 e).least other) (among None (exits_of r) (Some other) there);
      },
      λ h. rest.1 record {
        one = ⊎_elim (λ c. absurd cc) (λ there. there) (among None (exits_of r) (Some exit) h.one);
        least = λ other there. h.least other (Contains-append_right (None ∷ []) (exits_of r) (Some other) there);
      },
    )
    here (Some status) rest = (
      λ e. subst (IsLeastExit (Some (x.0.number, status) ∷ exits_of r)) (same_Some (x.0.number, status) exit e) record {
        one = (0, omega arith, refl);
        least = λ other there. ⊎_elim
            (λ c. let number = ap (λ (y : ℕ × ℕ). y.0) (same_Some (x.0.number, status) other c) in omega arith)
            (λ later. let less = all_late x.0.number r up other later in omega arith)
            (among (Some (x.0.number, status)) (exits_of r) (Some other) there);
      },
      λ h. ⊎_elim
          (λ first. first)
          (λ later. let less = all_late x.0.number r up exit later in let le = h.least (x.0.number, status) (0, omega arith, refl) in absurd (omega arith))
          (among (Some (x.0.number, status)) (exits_of r) (Some exit) h.one),
    )

pub least_exit : (m : ScriptMeant) (fs : List Firing) (threads : Threads) (exit : ℕ × ℕ) → IsStrictlyIncreasing (map number_of fs)
    → (exit_of (history m fs threads) ≡ Some exit) ↔ IsLeastExit (exits_of (history m fs threads)) exit
least_exit m fs threads exit up = first_is_least (history m fs threads) (climbs_history m fs threads up) exit
