-- Which firings of a trace count, and how the run ends.
-- Source: Dynamic Tracing Guide, "Actions and Subroutines" (exit), "dtrace Provider" (BEGIN, END).
use Rattle.std.specs.Prelude.{ℕ, ◌≤◌, nat_le, List, filter, map, Contains, Option, None, Some}
use Rattle.std.specs.Prelude.{option_map, unwrap_or}
use Rattle.replay_core.specs.Vocabulary.{Firing, Made, ScriptMeant, no_number, with_ends}
use Rattle.replay_core.specs.Meaning.{blank_threads, history, exit_of}

-- the firings up to the one that exits
abbrev pub up_to : Option (ℕ × ℕ) → List Firing → List Firing
up_to None fs = fs
up_to (Some (last, status)) fs = filter (λ f. nat_le f.number last) fs

-- BEGIN, the trace's firings up to the first that exits, END
abbrev pub firings_over : ScriptMeant → List Firing → List Firing
firings_over m trace =
    with_ends trace (up_to (exit_of (history m (with_ends trace trace) blank_threads)) trace)

-- the run of a script over a trace
abbrev pub history_over : ScriptMeant → List Firing → List (Firing × Made)
history_over m trace = history m (firings_over m trace) blank_threads

-- the status of its exit, or 0
abbrev pub exit_status : List (Firing × Made) → ℕ
exit_status h = unwrap_or (option_map (λ (number, status). status) (exit_of h)) 0

-- the number of the first firing of a trace that exits, 2^64 - 1 if none does
abbrev pub first_exit_number : ScriptMeant → List Firing → ℕ
first_exit_number m trace =
    unwrap_or (option_map (λ (number, status). number)
    (exit_of (history m (with_ends trace trace) blank_threads))) no_number

-- what each firing exits with: its number and the status
abbrev pub exits_of : List (Firing × Made) → List (Option (ℕ × ℕ))
exits_of h = map (λ (f, made). option_map (λ status. (f.number, status)) made.exit) h

-- an exit is one of these, and none has a lesser number
pub record IsLeastExit (exits : List (Option (ℕ × ℕ))) (exit : ℕ × ℕ) : Type 0 where
  pub one : Contains exits (Some exit)
  pub least : (other : ℕ × ℕ) → Contains exits (Some other) → exit.0 ≤ other.0
