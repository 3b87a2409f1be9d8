-- What the tables of variables hold, and how storing changes it.
use Rattle.std.specs.Prelude.{◌≡◌, List, Option, None, Some}
use Rattle.d_values.specs.Vocabulary.{lookup, KeyPart, Value, Var}
use Rattle.d_values.specs.declared.held.Held.{Held}
use Rattle.d_values.specs.Keys.{same_key}
use Rattle.d_values.specs.Variables.{same_var}
use Rattle.d_values.specs.Stores.{with_own}
use Rattle.d_values.specs.Tables.{elements_of}

abbrev pub value_in : Option Held → List KeyPart → Option Value
value_in None key = None
value_in (Some held) key = lookup (same_key key) (elements_of held)

-- what a variable holds at a key
abbrev pub value_at : List (Var × Held) → Var → List KeyPart → Option Value
value_at variables var key = value_in (lookup (same_var var) variables) key

-- only what one variable has at one key became this
abbrev pub Sets : List (Var × Held) → List (Var × Held) → Var → List KeyPart → Option Value
    → Type 0
Sets old new var key value = (v : Var) (k : List KeyPart)
    → value_at new v k ≡ with_own (value_at old) var key value v k
