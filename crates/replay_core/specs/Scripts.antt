-- When clauses of an engine are those of a script.
use Rattle.std.specs.Prelude.{◌≡◌, ℕ, ℤ, List, All}
use Rattle.replay_core.specs.Vocabulary.{AggFn, AllZip, AreTyped, AreTypedOwn, ClauseMeant}
use Rattle.replay_core.specs.Vocabulary.{Firing, HasTypedBuiltIns, ScriptMeant, Slots}
use Rattle.replay_core.specs.Vocabulary.{Variables, functions_in, run_of, slots_of}
use Rattle.replay_core.specs.Meaning.{Threads}

-- variables that hold values of their types do so after each run of the clause
abbrev pub Keeps : Slots → ClauseMeant → Type 0
Keeps slots c = (f : Firing) (index : ℕ) (vars : Variables) → HasTypedBuiltIns f
    → AreTyped slots vars → AreTyped slots (run_of f index c vars).variables

-- what each thread keeps is of the types of the variables
abbrev pub AreTypedThreads : Slots → Threads → Type 0
AreTypedThreads slots threads = (thread : ℤ) → AreTypedOwn slots (threads thread)

-- an engine's clauses mean these, one by one, and these keep the types of the variables
pub record AllMean {C : Type 0} (means : C → Slots → ClauseMeant → Type 0) (slots : Slots)
    (clauses : List C) (cs : List ClauseMeant) : Type 0 where
  pub each : AllZip (λ c. means c slots) clauses cs
  pub keep : All (Keeps slots) cs

-- each clause means the script's, and the aggregations have the script's functions
pub record RunsAs {C : Type 0} (means : C → Slots → ClauseMeant → Type 0) (clauses : List C)
    (functions : List AggFn) (m : ScriptMeant) : Type 0 where
  pub clauses_mean : AllMean means (slots_of m) clauses m.clauses
  pub have_functions : functions ≡ functions_in m
