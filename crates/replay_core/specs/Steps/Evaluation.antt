-- What the functions that evaluate an expression return, unless memory ran out.
use Rattle.std.specs.Prelude.{◌≡◌, List, Result, Ok, Err}
use Rattle.dif_machine.specs.declared.fault.MachineFault.{MachineFault}
use Rattle.numbered.specs.Words.{key_in}
use Rattle.numbered.specs.declared.word.Word.{Word}
use Rattle.replay_core.specs.Vocabulary.{Faults, Firing, Has, KeyPart, Outcome, Typed, Value}
use Rattle.replay_core.specs.Vocabulary.{Variables, eval}
use Rattle.replay_core.specs.declared.{evaluation.fault.EvalFault.EvalFault}
use Rattle.replay_core.specs.declared.{lanes.state.State.State, lanes.store.Store.Ghosts}
use Rattle.replay_core.specs.declared.{lanes.tables.Tables.Tables}
use Rattle.replay_core.specs.{Evaluation.Meets, Evaluation.Stays, Evaluation.variables_in}
use Rattle.replay_core.specs.{Threads.tables_seen, WordStore.WordsSeen, WordStore.words_seen}

-- the value of what is evaluated
abbrev pub HasValue : {G : Ghosts Tables} → Typed → Result Value EvalFault
    → (old new : State Tables G) → Type 0
HasValue e = Meets tables_seen (λ f. eval f e)

-- ---- values as words

-- what a run of an object returned, as evaluations return it
abbrev pub evaluation_of : {A : Type 0} → Result A MachineFault → Result A EvalFault
evaluation_of (Ok x) = Ok x
evaluation_of (Err MachineFault.DivideByZero) = Err EvalFault.DivideByZero
evaluation_of (Err MachineFault.Memory) = Err EvalFault.Memory

-- what a call that makes a key leaves, unless memory ran out: words that stand for it
abbrev pub IsMadeKey : {A : Type 0} → Outcome (List KeyPart) → Result A EvalFault → List KeyPart
    → Variables → Type 0
IsMadeKey o (Ok x) key vars = o ≡ Has key vars
IsMadeKey o (Err EvalFault.DivideByZero) key vars = o ≡ Faults vars
IsMadeKey o (Err EvalFault.Memory) key vars = Unit {0}

pub record MakesKey {A : Type 0} {G : Ghosts WordsSeen}
    (meaning : Firing → Variables → Outcome (List KeyPart)) (r : Result A EvalFault)
    (words : List Word) (old new : State WordsSeen G) : Type 0 where
  pub stays : Stays words_seen old new
  pub made : IsMadeKey (meaning old.firing.now (variables_in words_seen old)) r
      (key_in new.store.now.texts words) (variables_in words_seen new)
