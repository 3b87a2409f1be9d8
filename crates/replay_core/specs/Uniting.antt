-- How the groups of a run make it up.
use Rattle.std.specs.Prelude.{◌≡◌, ℕ, ◌==◌, ◌≤◌, nat_lt, List, [], ◌∷◌, filter, map, Option, None}
use Rattle.std.specs.Prelude.{Some, if◌then◌else◌}
use Rattle.d_types.specs.Typed.{ScriptMeant}
use Rattle.d_types.specs.Clauses.{Made}
use Rattle.firings.specs.declared.firing.Firing.{Firing}
use Rattle.replay_core.specs.Groups.{Grouping, SameItems, below, is_group, of_group, over_groups}
use Rattle.replay_core.specs.Meaning.{blank_threads, history, texts_of, contributions_of}
use Rattle.replay_core.specs.Meaning.{numbers_of, exit_of}

-- the meaning of a group: the run of its threads' firings alone
abbrev pub group_history : ScriptMeant → Grouping → List Firing → ℕ → List (Firing × Made)
group_history m grouping fs g = history m (of_group grouping g fs) blank_threads

-- what a run made of a group's firings
abbrev pub results_in_group : Grouping → ℕ → List (Firing × Made) → List (Firing × Made)
results_in_group grouping g r = filter (λ x. is_group g (grouping.group x.0.thread)) r

-- ---- lists by number

-- the items with this number, in their order
abbrev pub with_number : {T : Type 0} → ℕ → List (ℕ × T) → List (ℕ × T)
with_number number items = filter (λ x. x.0 == number) items

-- none has a lesser number
abbrev pub AllFrom : {T : Type 0} → ℕ → List (ℕ × T) → Type 0
AllFrom number [] = Unit {0}
AllFrom number (x ∷ xs) = (number ≤ x.0) × AllFrom number xs

-- the numbers do not fall
abbrev pub InOrder : {T : Type 0} → List (ℕ × T) → Type 0
InOrder [] = Unit {0}
InOrder (x ∷ xs) = AllFrom x.0 xs × InOrder xs

-- these items, sorted by number; those of one number stay in their order
pub record IsSorted {T : Type 0} (items sorted : List (ℕ × T)) : Type 0 where
  pub order : InOrder sorted
  pub each : (number : ℕ) → with_number number sorted ≡ with_number number items

-- ---- exits

-- the exit with the lesser number
abbrev pub sooner : Option (ℕ × ℕ) → Option (ℕ × ℕ) → Option (ℕ × ℕ)
sooner None other = other
sooner (Some exit) None = Some exit
sooner (Some exit) (Some other) = if nat_lt other.0 exit.0 then Some other else Some exit

-- the exit with the least number
abbrev pub first_exit : List (Option (ℕ × ℕ)) → Option (ℕ × ℕ)
first_exit [] = None
first_exit (exit ∷ exits) = sooner exit (first_exit exits)

-- ---- the run and its groups

-- what the run makes is what its groups make: the texts sorted by number, the contributions and the
-- numbers in some order, and the first exit
pub record GroupsMakeUp (m : ScriptMeant) (grouping : Grouping) (fs : List Firing) : Type 0 where
  pub texts : IsSorted (over_groups grouping (λ g. texts_of (group_history m grouping fs g)))
      (texts_of (history m fs blank_threads))
  pub contributions : SameItems
      (over_groups grouping (λ g. contributions_of (group_history m grouping fs g)))
      (contributions_of (history m fs blank_threads))
  pub numbers : SameItems (over_groups grouping (λ g. numbers_of (group_history m grouping fs g)))
      (numbers_of (history m fs blank_threads))
  pub exit : first_exit (map (λ g. exit_of (group_history m grouping fs g)) (below grouping.count))
      ≡ exit_of (history m fs blank_threads)
