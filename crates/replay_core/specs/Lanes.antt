-- What a lane does with a firing.
use Rattle.std.specs.Prelude.{◌≡◌, ℕ, Bool, false, List, [], ◌∷◌, ◌++◌, map, None, option_map}
use Rattle.replay_core.specs.Vocabulary.{Contribution, Firing, Made, ScriptMeant, StandsFor}
use Rattle.replay_core.specs.Vocabulary.{functions_of, option_or}
use Rattle.replay_core.specs.Meaning.{Threads, blank_threads, threads_after, history, texts_of}
use Rattle.replay_core.specs.Meaning.{contributions_of, numbers_of, exit_of}
use Rattle.replay_core.specs.Pieces.{PieceSeen}

-- a lane as contracts see it: what its threads keep, and the piece so far
pub record LaneSeen : Type 0 where
  pub threads : Threads
  pub piece : PieceSeen

-- no firing was run: nothing is assigned, nothing was made, and no memory was refused
pub record IsFresh (spent : Bool) (lane : LaneSeen) : Type 0 where
  pub unspent : spent ≡ false
  pub threads : lane.threads ≡ blank_threads
  pub texts : lane.piece.events ≡ []
  pub table : StandsFor lane.piece.table []
  pub taken : lane.piece.taken ≡ []
  pub exit : lane.piece.exit ≡ None

-- the piece goes on by this history
pub record GoesOnBy (r : List (Firing × Made)) (old new : PieceSeen) : Type 0 where
  pub texts : new.events ≡ old.events ++ texts_of r
  pub functions : functions_of new.table ≡ functions_of old.table
  pub table : (before : List Contribution) → StandsFor old.table before
      → StandsFor new.table (before ++ contributions_of r)
  pub taken : new.taken ≡ old.taken ++ numbers_of r
  pub exit : new.exit ≡ option_or old.exit (exit_of r)

-- a run of a clause at the firing of this number is noted in the piece, which takes no firing by it
pub record Notes (number : ℕ) (made : Made) (old new : PieceSeen) : Type 0 where
  pub texts : new.events ≡ old.events ++ map (λ text. (number, text)) made.texts
  pub functions : functions_of new.table ≡ functions_of old.table
  pub table : (before : List Contribution) → StandsFor old.table before
      → StandsFor new.table (before ++ made.contributions)
  pub taken : new.taken ≡ old.taken
  pub exit : new.exit ≡ option_or old.exit (option_map (λ status. (number, status)) made.exit)

-- one firing: its history alone, from what the threads had
pub record Fires (m : ScriptMeant) (f : Firing) (old new : LaneSeen) : Type 0 where
  pub threads : new.threads ≡ threads_after m f old.threads
  pub piece : GoesOnBy (history m (f ∷ []) old.threads) old.piece new.piece
