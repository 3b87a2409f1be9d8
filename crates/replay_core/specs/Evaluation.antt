-- What calls that evaluate return and leave.
use Rattle.std.specs.Prelude.{◌≡◌, Result, Ok, Err}
use Rattle.replay_core.specs.Vocabulary.{Faults, Firing, Has, Outcome, Variables}
use Rattle.replay_core.specs.declared.{evaluation.fault.EvalFault.EvalFault}
use Rattle.replay_core.specs.declared.{lanes.state.State.State, lanes.store.Store.Ghosts}
use Rattle.replay_core.specs.Threads.{StoreSeen}

-- ---- states, over a store of which contracts see this

abbrev pub variables_in : {S : Type 0} → {G : Ghosts S} → (S → StoreSeen) → State S G → Variables
variables_in seen state = (seen state.store.now).present

-- a state is still of the same firing, over the same store, and other threads keep what they kept
pub record Stays {S : Type 0} {G : Ghosts S} (seen : S → StoreSeen) (old new : State S G)
    : Type 0 where
  pub firing : new.firing ≡ old.firing
  pub store : new.store.ghost_name ≡ old.store.ghost_name
  pub at : (seen new.store.now).at ≡ (seen old.store.now).at
  pub others : (seen new.store.now).others ≡ (seen old.store.now).others

-- ---- what a call returns, unless memory ran out

abbrev pub Returns : {A : Type 0} → Outcome A → Result A EvalFault → Variables → Type 0
Returns o (Ok x) vars = o ≡ Has x vars
Returns o (Err EvalFault.DivideByZero) vars = o ≡ Faults vars
Returns o (Err EvalFault.Memory) vars = Unit {0}

-- what a call returns and leaves in its state
abbrev pub Meets : {S A : Type 0} → {G : Ghosts S} → (S → StoreSeen)
    → (Firing → Variables → Outcome A) → Result A EvalFault → (old new : State S G) → Type 0
Meets seen meaning r old new =
    Stays seen old new
    × Returns (meaning old.firing.now (variables_in seen old)) r (variables_in seen new)
