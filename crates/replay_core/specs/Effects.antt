-- Runs of clauses, as a lane records them.
use Rattle.std.specs.Prelude.{◌≡◌, ◌+◌, ◌≤◌, ◌^◌, ℕ, Bool, Contains, is_some, length}
use Rattle.replay_core.specs.Vocabulary.{Firing, Made, Variables, count_held, functions_of}
use Rattle.replay_core.specs.declared.{lanes.piece.Piece.Piece, lanes.state.State.State}
use Rattle.replay_core.specs.declared.{lanes.store.Store.Ghosts}
use Rattle.replay_core.specs.{Evaluation.variables_in, Lanes.Notes, Pieces.PieceSeen}
use Rattle.replay_core.specs.{Seen.piece_seen, Threads.StoreSeen}

-- a piece has as many aggregations, and room for as many contributions
pub record HasRoom (aggregations contributions : ℕ) (p : Piece) : Type 0 where
  pub known : aggregations ≤ length (functions_of p.table)
  pub room : count_held p.table + contributions ≤ 2 ^ 52

-- a piece has at most as many contributions more, of the same aggregations and the same firings
pub record HasMore (most : ℕ) (old new : Piece) : Type 0 where
  pub held : count_held new.table ≤ count_held old.table + most
  pub functions : functions_of new.table ≡ functions_of old.table
  pub taken : new.taken.items ≡ old.taken.items

-- the state's firing is one that the piece has taken
abbrev pub HasTaken : {S : Type 0} → {G : Ghosts S} → State S G → Piece → Type 0
HasTaken state p = Contains p.taken.items state.firing.now.number

-- a piece has room for what a run in this state may contribute, and has taken the state's firing
pub record CanNote {S : Type 0} {G : Ghosts S} (aggregations contributions : ℕ) (state : State S G)
    (p : Piece) : Type 0 where
  pub room : HasRoom aggregations contributions p
  pub taken : HasTaken state p

-- a run is noted, and whether it exits is returned
pub record NotesRun (number : ℕ) (made : Made) (old new : PieceSeen) (vars : Variables)
    (exits : Bool) : Type 0 where
  pub notes : Notes number made old new
  pub variables : vars ≡ made.variables
  pub exited : exits ≡ is_some made.exit

-- the same, of a run in a state
abbrev pub IsNotedRun : {S : Type 0} → {G : Ghosts S} → (S → StoreSeen)
    → (Firing → Variables → Made) → (old new : State S G) → (before after : Piece) → Bool → Type 0
IsNotedRun seen meaning old new before after exits =
    NotesRun old.firing.now.number (meaning old.firing.now (variables_in seen old))
    (piece_seen before) (piece_seen after) (variables_in seen new) exits
