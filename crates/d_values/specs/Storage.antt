-- The variables that an evaluation reads and changes.
-- Source: Dynamic Tracing Guide, "Variables".
use Rattle.std.specs.Prelude.{ℕ, List, []}
use Rattle.d_values.specs.Vocabulary.{KeyPart, Kind, Value, Var}
use Rattle.d_values.specs.declared.value.Value.TheVariants.{Int, Text}
use Rattle.d_values.specs.Stores.{Locals, Own, local_of, with_local, own_of, with_own}

-- ---- values

-- the word of an integer (a text counts as 0)
abbrev pub word_of : Value → ℕ
word_of (Int word) = word
word_of (Text bytes) = 0

-- the bytes of a text (an integer counts as the empty text)
abbrev pub bytes_of : Value → List ℕ
bytes_of (Int word) = []
bytes_of (Text bytes) = bytes

-- a value of the kind as it is
abbrev pub as_kind : Kind → Value → Value
as_kind Kind.Number value = Int (word_of value)
as_kind Kind.Text value = Text (bytes_of value)

-- ---- variables

-- what the clauses of a firing share, and what the firing's thread keeps: each variable's value,
-- and for the thread's at each key, zero or the empty text if nothing was assigned
pub record Variables : Type 0 where
  pub locals : Var → Value
  pub own : Var → List KeyPart → Value

-- the variables that the tables hold
abbrev pub variables : Locals → Own → Variables
variables locals own = record { locals = local_of locals; own = own_of own }

-- the variables once a clause-local was given a value
abbrev pub set_local : Variables → Var → Value → Variables
set_local vars var value = record { locals = with_local vars.locals var value; own = vars.own }

-- the variables once one of the thread's was given a value at the key, which is empty for a scalar
abbrev pub set_own : Variables → Var → List KeyPart → Value → Variables
set_own vars var key value = record { locals = vars.locals; own = with_own vars.own var key value }
