-- The table of variables as the rows that it stands for, and whether keys fit.
use Rattle.std.specs.Prelude.{ℕ, Bool, true, false, ◌&&◌, List, [], ◌∷◌, map, Option}
use Rattle.std.specs.Option.{option_map_or}
use denote.Enum.Bare.{sameb}
use Rattle.d_types.specs.Vocabulary.{bytes_eq, Entry, DType, Kind, Space}
use Rattle.d_types.specs.contracts.typed.Space as space
use Rattle.d_values.specs.contracts.value.Kind as kind
use Rattle.d_types.specs.Typed.{Typeds, end, more, type_of}
use Rattle.d_types.specs.Variables.{Row, Rows, kind_of_type, keys_at}

-- the row is of this variable
abbrev pub names_row : Space → List ℕ → Row → Bool
names_row s w r = sameb space.the_type r.space s && bytes_eq r.word w

abbrev pub row_of_entry : Entry → Row
row_of_entry e = record { space = e.space; word = e.name; keys = e.keys.items; holds = e.holds }

abbrev pub rows_of_entries : List Entry → Rows
rows_of_entries es = map row_of_entry es

-- keys of these kinds
abbrev pub fit : List Kind → Typeds → Bool
fit [] end = true
fit (x ∷ kinds) (more y keys) = sameb kind.the_type (kind_of_type (type_of y)) x && fit kinds keys
fit kinds keys = false

-- keys of the slot's kinds
abbrev pub keys_fit : Rows → ℕ → Typeds → Bool
keys_fit rows slot keys = option_map_or (λ kinds. fit kinds keys) (keys_at rows slot) false

-- the types of all variables
abbrev pub types_in : Rows → List (Option DType)
types_in rows = map (λ r. r.holds) rows
