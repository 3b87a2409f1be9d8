-- Variables that are assigned.
-- Source: Dynamic Tracing Guide, "Variables".
use Rattle.std.specs.Prelude.{ℕ, List, Option, Some, None}
use Rattle.d_parser.specs.declared.tree.Variable.{Variable}
use Rattle.d_types.specs.Vocabulary.{Int, DType, INT64, Kind, Space, MAX_KEYS, AssignOperator}
use Rattle.d_types.specs.Variables.{Row, Rows, set_type}

-- how many keys a variable may have
abbrev pub most_keys : Space → ℕ
most_keys Space.Thread = MAX_KEYS
most_keys Space.Clause = 0

-- the table once a slot without a type has this one, if any
abbrev pub settle_slot : Option DType → ℕ → Option DType → Rows → Rows
settle_slot None slot (Some t) rows = set_type slot t rows
settle_slot _ slot _ rows = rows

-- a variable of this name, the type if it is known, and the kinds of its keys
abbrev pub new_row : Space → List ℕ → Option DType → List Kind → Row
new_row space name t kinds = record { space = space; word = name; keys = kinds; holds = t }

-- where a target is kept (a plain word never is)
abbrev pub space_of : Variable → Space
space_of (Variable.Clause line name) = Space.Clause
space_of v = Space.Thread

-- the type that an assignment gives its target at once
abbrev pub type_at_once : AssignOperator → Option DType
type_at_once AssignOperator.Set = None
type_at_once sort = Some (Int INT64)
