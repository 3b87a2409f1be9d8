-- What variables hold.
-- Source: Dynamic Tracing Guide, "Thread-Local Variables" and "Clause-Local Variables".
use Rattle.std.specs.Prelude.{◌≡◌, Bool, true, false, ◌&&◌, ◌==◌, if◌then◌else◌, List, [], ◌∷◌}
use Rattle.std.specs.Prelude.{Option, None, Some, unwrap_or}
use Rattle.d_values.specs.Vocabulary.{lookup, KeyPart, Kind, Value, ValueRef, Var}
use Rattle.d_values.specs.declared.value.Value.TheVariants.{Int, Text}
use Rattle.d_values.specs.Keys.{same_key}
use Rattle.d_values.specs.Variables.{same_var}

abbrev pub kind_of : Value → Kind
kind_of (Int n) = Kind.Number
kind_of (Text bytes) = Kind.Text

-- zero, or the empty text
abbrev pub blank : Kind → Value
blank Kind.Number = Int 0
blank Kind.Text = Text []

abbrev pub is_blank : Value → Bool
is_blank (Int n) = n == 0
is_blank (Text []) = true
is_blank (Text (b ∷ bytes)) = false

-- what a map keeps of a value
abbrev pub value_to_keep : Value → Option Value
value_to_keep value = if is_blank value then None else Some value

abbrev pub lent_value : ValueRef → Value
lent_value (ValueRef.Int n) = Int n
lent_value (ValueRef.Text bytes) = Text bytes.now

-- ---- clause-local variables: those that are set, each with its value

abbrev pub Locals : Type 0
Locals = List (Var × Value)

abbrev pub local_entry : Locals → Var → Option Value
local_entry locals var = lookup (same_var var) locals

-- a variable that isn't set reads as zero or the empty text
abbrev pub local_of : Locals → Var → Value
local_of locals var = unwrap_or (local_entry locals var) (blank var.kind)

-- what is set is neither zero nor the empty text, and of its variable's kind
abbrev pub AreLocals : Locals → Type 0
AreLocals locals = (var : Var) (value : Value) → local_entry locals var ≡ Some value
    → (is_blank value ≡ false) × (kind_of value ≡ var.kind)

-- all as before, but at this variable
abbrev pub with_local : {X : Type 0} → (Var → X) → Var → X → Var → X
with_local old var new other = if same_var var other then new else old other

-- ---- thread-local variables: for each the keys that are set, each with its value
-- A scalar has the empty key.

abbrev pub Elements : Type 0
Elements = List (List KeyPart × Value)

abbrev pub Own : Type 0
Own = List (Var × Elements)

abbrev pub element : Option Elements → List KeyPart → Option Value
element None key = None
element (Some elements) key = lookup (same_key key) elements

abbrev pub own_entry : Own → Var → List KeyPart → Option Value
own_entry own var key = element (lookup (same_var var) own) key

-- what isn't set reads as zero or the empty text
abbrev pub own_of : Own → Var → List KeyPart → Value
own_of own var key = unwrap_or (own_entry own var key) (blank var.kind)

-- what is set is neither zero nor the empty text, and of its variable's kind
abbrev pub AreOwn : Own → Type 0
AreOwn own = (var : Var) (key : List KeyPart) (value : Value)
    → own_entry own var key ≡ Some value → (is_blank value ≡ false) × (kind_of value ≡ var.kind)

-- all as before, but at this variable's key
abbrev pub with_own : {X : Type 0} → (Var → List KeyPart → X) → Var → List KeyPart → X
    → Var → List KeyPart → X
with_own old var key new v k = if same_var var v && same_key key k then new else old v k
