-- The table of variables.
-- Source: Dynamic Tracing Guide, "Variables".
use Rattle.std.specs.Prelude.{ℕ, zero, suc, ◌&&◌, List, [], ◌∷◌, slice_get, Option, Some}
use Rattle.std.specs.Prelude.{map, option_map, option_and_then}
use Rattle.std.specs.List.{position_from}
use denote.Enum.Bare.{sameb}
use Rattle.d_types.specs.Vocabulary.{bytes_eq, Kind, DType, Space}
use Rattle.d_types.specs.contracts.typed.Space as space
use Rattle.d_types.specs.Typed.{Typeds, types_of}

-- a variable; its keys are known before its type
pub record Row : Type 0 where
  pub space : Space
  pub word : List ℕ
  pub keys : List Kind
  pub holds : Option DType

-- the variables so far: a variable's slot is its index
abbrev pub Rows : Type 0
Rows = List Row

abbrev pub kind_of_type : DType → Kind
kind_of_type (DType.Int t) = Kind.Number
kind_of_type DType.Text = Kind.Text

-- the slot of a variable
abbrev pub find : Space → List ℕ → Rows → Option ℕ
find s w rows = position_from (λ r. sameb space.the_type r.space s && bytes_eq r.word w) 0 rows

-- the kinds of its keys
abbrev pub keys_at : Rows → ℕ → Option (List Kind)
keys_at rows slot = option_map (λ r. r.keys) (slice_get rows slot)

-- its type, once it is known
abbrev pub type_at : Rows → ℕ → Option DType
type_at rows slot = option_and_then (λ r. r.holds) (slice_get rows slot)

-- the table once the slot's variable has this type
abbrev pub set_type : ℕ → DType → Rows → Rows
set_type n t [] = []
set_type zero t (r ∷ rs) = record r { holds = Some t } ∷ rs
set_type (suc n) t (r ∷ rs) = r ∷ set_type n t rs

-- the kinds of keys
abbrev pub kinds_of_typed : Typeds → List Kind
kinds_of_typed xs = map kind_of_type (types_of xs)
