-- The effect of a statement, noted in a piece.
use Rattle.std.specs.Prelude.{◌≡◌, ℕ, Bool, List, [], ◌∷◌, Result, Ok, Err, is_some}
use Rattle.replay_core.specs.Vocabulary.{Effect, Faults, Firing, Has, Made, Outcome, Variables}
use Rattle.replay_core.specs.Steps.EffectRuns.{contributions_in, exit_in, texts_in}
use Rattle.replay_core.specs.declared.{evaluation.fault.EvalFault.EvalFault}
use Rattle.replay_core.specs.declared.{lanes.piece.Piece.Piece}
use Rattle.replay_core.specs.declared.{lanes.state.State.State, lanes.store.Store.Ghosts}
use Rattle.replay_core.specs.{Evaluation.Stays, Evaluation.variables_in, Pieces.PieceSeen}
use Rattle.replay_core.specs.{Lanes.Notes, Seen.piece_seen, Threads.StoreSeen}

-- what effects make, if no fault comes after them
abbrev pub effects_result : List Effect → Variables → Made
effects_result effects vars = record {
  texts = texts_in effects;
  contributions = contributions_in effects;
  exit = exit_in effects;
  variables = vars;
}

-- an effect is noted, whatever the variables are
abbrev pub NotesEffect : ℕ → Effect → (old new : PieceSeen) → Type 0
NotesEffect number effect old new =
    (vars : Variables) → Notes number (effects_result (effect ∷ []) vars) old new

-- a statement's effect is noted, and whether it exits is returned; at its fault nothing is noted
abbrev pub Performs : ℕ → Outcome Effect → PieceSeen → Result Bool EvalFault → PieceSeen
    → Variables → Type 0
Performs number o old (Err EvalFault.Memory) new vars = Unit {0}
Performs number (Has effect after) old (Ok exits) new vars =
    (vars ≡ after) × NotesEffect number effect old new × (exits ≡ is_some (exit_in (effect ∷ [])))
Performs number (Has effect after) old (Err EvalFault.DivideByZero) new vars = ⊥
Performs number (Faults after) old (Ok exits) new vars = ⊥
Performs number (Faults after) old (Err EvalFault.DivideByZero) new vars =
    (vars ≡ after) × (new ≡ old)

-- a statement in a state does what its meaning says
abbrev pub IsPerformed : {S : Type 0} → {G : Ghosts S} → (S → StoreSeen)
    → (Firing → Variables → Outcome Effect) → Result Bool EvalFault → (old new : State S G)
    → (before after : Piece) → Type 0
IsPerformed seen meaning r old new before after =
    Stays seen old new
    × Performs old.firing.now.number (meaning old.firing.now (variables_in seen old))
    (piece_seen before) r (piece_seen after) (variables_in seen new)

-- a piece keeps its contributions and its firings
pub record KeepsTable (old new : Piece) : Type 0 where
  pub table : new.table ≡ old.table
  pub taken : new.taken.items ≡ old.taken.items
