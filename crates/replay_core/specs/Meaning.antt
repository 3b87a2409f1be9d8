-- What a firing means, and what a run means.
-- Source: Dynamic Tracing Guide, "D Program Structure".
use Rattle.std.specs.Prelude.{ℕ, suc, ℤ, List, [], ◌∷◌, ◌++◌, filter, map, Option, None, option_map}
use Rattle.std.specs.Prelude.{if◌then◌else◌}
use Rattle.replay_core.specs.Vocabulary.{ClauseMeant, Contribution, Firing, KeyPart, Made}
use Rattle.replay_core.specs.Vocabulary.{ScriptMeant, Value, Var, Variables, and_then, blank}
use Rattle.replay_core.specs.Vocabulary.{flat_map, int_eq, nothing_made, option_or, run_of}
use Rattle.replay_core.specs.Patterns.{probe_of, selects}

-- what the threads keep: each its own variables, at each key
abbrev pub Threads : Type 0
Threads = ℤ → Var → List KeyPart → Value

-- zero or the empty text everywhere
abbrev pub blank_threads : Threads
blank_threads thread var key = blank var.kind

-- ---- a firing

-- the clauses that run, each with its index from 1: in the script's order, once for each
-- description that selects the firing's probe
abbrev pub clauses_for : Firing → ℕ → List ClauseMeant → List (ℕ × ClauseMeant)
clauses_for f index [] = []
clauses_for f index (c ∷ cs) =
    map (λ d. (index, c)) (filter (λ d. selects d (probe_of f)) c.descriptions)
    ++ clauses_for f (suc index) cs

-- clauses run one after the other
abbrev pub in_turn : Firing → List (ℕ × ClauseMeant) → Variables → Made
in_turn f [] vars = nothing_made vars
in_turn f ((index, c) ∷ cs) vars =
    let first = run_of f index c vars in and_then first (in_turn f cs first.variables)

-- a firing begins with its thread's variables, and with clause-locals that are zero or empty
abbrev pub at_start : (Var → List KeyPart → Value) → Variables
at_start own = record { locals = λ var. blank var.kind; own = own }

-- what a firing makes
abbrev pub firing_result : ScriptMeant → Firing → (Var → List KeyPart → Value) → Made
firing_result m f own = in_turn f (clauses_for f 1 m.clauses) (at_start own)

-- ---- a run

-- the firing's thread has the new variables, and each other thread those that it had
abbrev pub threads_after : ScriptMeant → Firing → Threads → Threads
threads_after m f threads thread =
    if int_eq thread f.thread then (firing_result m f (threads f.thread)).variables.own
    else threads thread

-- each firing with what it makes, over one map of the threads' variables
abbrev pub history : ScriptMeant → List Firing → Threads → List (Firing × Made)
history m [] threads = []
history m (f ∷ fs) threads =
    (f, firing_result m f (threads f.thread)) ∷ history m fs (threads_after m f threads)

-- the texts, each with its firing's number
abbrev pub texts_of : List (Firing × Made) → List (ℕ × List ℕ)
texts_of r = flat_map (λ (f, made). map (λ text. (f.number, text)) made.texts) r

abbrev pub contributions_of : List (Firing × Made) → List Contribution
contributions_of r = flat_map (λ (f, made). made.contributions) r

abbrev pub numbers_of : List (Firing × Made) → List ℕ
numbers_of r = map (λ (f, made). f.number) r

-- the first firing that exits, with its status: numbers rise, so it is the least
abbrev pub exit_of : List (Firing × Made) → Option (ℕ × ℕ)
exit_of [] = None
exit_of ((f, made) ∷ h) = option_or (option_map (λ code. (f.number, code)) made.exit) (exit_of h)
