-- What clauses make and leave that run on the variables of a firing's thread.
use Rattle.std.specs.Prelude.{◌≡◌, ◌+◌, ◌*◌, ◌<◌, ◌≤◌, ◌^◌, ℕ, ℤ, All, Bool, List, [], ◌∷◌}
use Rattle.std.specs.Prelude.{if◌then◌else◌, is_some, length}
use Rattle.replay_core.specs.Vocabulary.{ClauseMeant, Firing, MAX_BYTES, Made, ScriptMeant}
use Rattle.replay_core.specs.Vocabulary.{count_held, functions_of, int_eq, slots_of}
use Rattle.replay_core.specs.declared.{lanes.piece.Piece.Piece}
use Rattle.replay_core.specs.{Bounds.AreBounded}
use Rattle.replay_core.specs.Lanes.{Fires, LaneSeen, Notes}
use Rattle.replay_core.specs.Meaning.{Threads, at_start, exit_of, history}
use Rattle.replay_core.specs.{Scripts.AreTypedThreads, Seen.piece_seen}
use Rattle.replay_core.specs.Steps.AllMade.{all_made}

-- the clauses at these indices are there, and a piece has room for what they contribute
pub record AreRunnable {C : Type 0} (indices most probes : C → ℕ) (clauses : List C)
    (chosen : List ℕ) (p : Piece) : Type 0 where
  pub there : All (λ index. index < length clauses) chosen
  pub bounded : AreBounded indices most probes clauses (functions_of p.table)
  pub room : count_held p.table + MAX_BYTES * length chosen ≤ 2 ^ 52

-- what the clauses at these indices make of what the firing's thread has
abbrev pub made_on : Firing → List ClauseMeant → List ℕ → Threads → Made
made_on f cs indices threads = all_made f cs indices (at_start (threads f.thread))

-- what the clauses make is noted, the thread has the new variables, and each other thread those
-- that it had
pub record RunsOn (f : Firing) (made : Made) (old new : Threads) (before after : Piece)
    (exits : Bool) : Type 0 where
  pub notes : Notes f.number made (piece_seen before) (piece_seen after)
  pub threads : (thread : ℤ) → new thread
      ≡ (if int_eq thread f.thread then made.variables.own else old thread)
  pub exited : exits ≡ is_some made.exit

-- a firing leaves values of the variables' types, and whether it exits is returned
pub record FiresTyped (m : ScriptMeant) (f : Firing) (old new : LaneSeen) (exits : Bool)
    : Type 0 where
  pub fires : Fires m f old new
  pub typed : AreTypedThreads (slots_of m) new.threads
  pub exited : exits ≡ is_some (exit_of (history m (f ∷ []) old.threads))
