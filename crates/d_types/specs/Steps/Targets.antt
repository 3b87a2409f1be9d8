-- Variables that are read and assigned, as the code does it.
use Rattle.std.specs.Prelude.{ℕ, nat_le, Bool, true, false, if◌then◌else◌, List, [], ◌∷◌, ◌++◌}
use Rattle.std.specs.Prelude.{length, Option, Some, None, Result, Ok}
use Rattle.d_parser.specs.declared.tree.Variable.{Variable}
use Rattle.d_types.specs.Vocabulary.{Int, Step, IntType, DType, promoted_of, common_of, Answer}
use Rattle.d_types.specs.Vocabulary.{BuiltIn, Space, Operation, AssignOperator}
use Rattle.d_types.specs.Steps.Faults.{Fault, refuse, GlobalAssignment, Undeclared, Keys, ReadOnly}
use Rattle.d_types.specs.Variables.{Rows, find, type_at, set_type, kinds_of_typed}
use Rattle.d_types.specs.Steps.Variables.{keys_fit}
use Rattle.d_types.specs.Needs.{count}
use Rattle.d_types.specs.Words.{built_in}
use Rattle.d_types.specs.Typed.{Typed, Typeds, end, more, type_of}
use Rattle.d_types.specs.Steps.Operators.{as_type}
use Rattle.d_types.specs.Operators.{conversion_node}
use Rattle.d_types.specs.Targets.{most_keys, settle_slot, new_row}

-- a word alone is a built-in variable, which has no keys
abbrev pub plain : ℕ → Option BuiltIn → Typeds → Result Typed Fault
plain line None keys = refuse Undeclared line
plain line (Some b) end = Ok (Typed.Fixed b)
plain line (Some b) (more x rest) = refuse Keys line

abbrev pub load : Space → ℕ → ℕ → Option DType → Bool → Typeds → Result Typed Fault
load space line slot None same keys = refuse Undeclared line
load space line slot (Some t) false keys = refuse Keys line
load space line slot (Some t) true keys =
    Ok (Typed.Read (record { space = space; slot = slot; holds = t }) keys)

-- a variable has to be known with its type, and then with these keys
abbrev pub load_at : Space → ℕ → Rows → Option ℕ → Typeds → Result Typed Fault
load_at space line rows None keys = refuse Undeclared line
load_at space line rows (Some slot) keys =
    load space line slot (type_at rows slot) (keys_fit rows slot keys) keys

-- a variable or built-in that is read
abbrev pub read_variable : Rows → Variable → Typeds → Result Typed Fault
read_variable rows (Variable.Plain line name) keys = plain line (built_in name) keys
read_variable rows (Variable.Thread line name) keys =
    load_at Space.Thread line rows (find Space.Thread name rows) keys
read_variable rows (Variable.Clause line name) keys =
    load_at Space.Clause line rows (find Space.Clause name rows) keys

-- a word alone can't be assigned
abbrev pub plain_target : ℕ → List ℕ → Option BuiltIn → Typeds → Result (ℕ × Rows) Fault
plain_target line name None keys = refuse (GlobalAssignment name) line
plain_target line name (Some b) end = refuse ReadOnly line
plain_target line name (Some b) (more y rest) = refuse Keys line

-- the slot, and the table with it: the first target fixes the keys, the others have the same
abbrev pub slot_for : Space → ℕ → List ℕ → Rows → Option DType → Typeds → Option ℕ
    → Result (ℕ × Rows) Fault
slot_for space line name rows t keys None =
    if nat_le (count keys) (most_keys space)
    then Ok (length rows, rows ++ new_row space name t (kinds_of_typed keys) ∷ [])
    else refuse Keys line
slot_for space line name rows t keys (Some slot) =
    if keys_fit rows slot keys then Ok (slot, settle_slot (type_at rows slot) slot t rows)
    else refuse Keys line

-- a variable that is assigned, with the type that it has from here on, if any
abbrev pub target : Rows → Variable → Option DType → Typeds → Result (ℕ × Rows) Fault
target rows (Variable.Plain line name) t keys = plain_target line name (built_in name) keys
target rows (Variable.Thread line name) t keys =
    slot_for Space.Thread line name rows t keys (find Space.Thread name rows)
target rows (Variable.Clause line name) t keys =
    slot_for Space.Clause line name rows t keys (find Space.Clause name rows)

abbrev pub store_node : Space → ℕ → DType → Typeds → Rows → Option Typed → Option (Typed × Rows)
store_node space slot t keys rows None = None
store_node space slot t keys rows (Some x) =
    Some (Typed.Assign (record { space = space; slot = slot; holds = t }) keys x, rows)

-- `=` gives the type of its right side if there is none yet
abbrev pub store : Space → Option DType → ℕ → Typeds → Typed → Rows → Option (Typed × Rows)
store space None slot keys x rows =
    store_node space slot (type_of x) keys (set_type slot (type_of x) rows) (Some x)
store space (Some t) slot keys x rows = store_node space slot t keys rows (as_type (type_of x) t x)

abbrev pub update_node : Operation → Space → ℕ → IntType → Typeds → Typed → Rows → Option (Typed
    × Rows)
update_node op space slot t keys x rows =
    Some (Typed.Update op (record { space = space; slot = slot; holds = Int t }) keys x, rows)

-- an assignment to a slot of the first type of a value of the second
abbrev pub assignment : AssignOperator → Space → Option DType → DType → ℕ → Typeds → Typed → Rows
    → Option (Typed × Rows)
assignment AssignOperator.Set space t k slot keys x rows = store space t slot keys x rows
assignment (AssignOperator.Arithmetic op) space (Some (Int t)) (Int u) slot keys x rows =
    update_node (Operation.Arithmetic op (common_of t u)) space slot t keys
    (conversion_node u (common_of t u) x) rows
assignment (AssignOperator.Shift op) space (Some (Int t)) (Int u) slot keys x rows =
    update_node (Operation.Shift op (promoted_of t)) space slot t keys x rows
assignment _ space t k slot keys x rows = None

-- `++` and `--`
abbrev pub step : Step → Answer → Space → Option DType → ℕ → Typeds → Option Typed
step by answer space (Some (Int t)) slot keys =
    Some (Typed.Count by answer (record { space = space; slot = slot; holds = Int t }) keys)
step by answer space _ slot keys = None
