-- What pieces and wholes are of.
use Rattle.std.specs.Prelude.{◌≡◌, ℕ, List, map, Option}
use Rattle.replay_core.specs.Vocabulary.{Aggregation, Firing, ScriptMeant, StandsFor, flat_map}
use Rattle.replay_core.specs.Vocabulary.{functions_in, functions_of, number_of}
use Rattle.replay_core.specs.Meaning.{blank_threads, history, texts_of, contributions_of, exit_of}
use Rattle.replay_core.specs.Groups.{Grouping, SameItems, numbers_by_group}

-- a lane's piece as contracts see it
pub record PieceSeen : Type 0 where
  -- each with its firing's number
  pub events : List (ℕ × List ℕ)
  pub table : List Aggregation
  -- the numbers of the firings
  pub taken : List ℕ
  -- the first of them that exited, and its status
  pub exit : Option (ℕ × ℕ)

-- what contracts see of a whole, whose numbers are listed group by group
pub record WholeSeen : Type 0 where
  pub events : List (ℕ × List ℕ)
  pub table : List Aggregation
  pub ran : List (List ℕ)
  pub exit : Option (ℕ × ℕ)

-- the piece is what the script makes of these firings
pub record IsPieceOf (m : ScriptMeant) (fs : List Firing) (p : PieceSeen) : Type 0 where
  pub texts : p.events ≡ texts_of (history m fs blank_threads)
  pub functions : functions_of p.table ≡ functions_in m
  pub table : StandsFor p.table (contributions_of (history m fs blank_threads))
  pub taken : p.taken ≡ map number_of fs
  pub exit : p.exit ≡ exit_of (history m fs blank_threads)

-- the whole is what the script makes of these firings, with the numbers of each group's
pub record IsWholeOf (m : ScriptMeant) (fs : List Firing) (grouping : Grouping)
    (w : WholeSeen) : Type 0 where
  pub texts : w.events ≡ texts_of (history m fs blank_threads)
  pub functions : functions_of w.table ≡ functions_in m
  pub table : StandsFor w.table (contributions_of (history m fs blank_threads))
  pub ran : w.ran ≡ numbers_by_group grouping fs
  pub exit : w.exit ≡ exit_of (history m fs blank_threads)

-- the whole has the number of each of these firings once
abbrev pub RunsEachOnce : List Firing → WholeSeen → Type 0
RunsEachOnce fs w = SameItems (flat_map (λ group. group) w.ran) (map number_of fs)
