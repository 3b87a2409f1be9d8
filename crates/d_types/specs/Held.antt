-- Values of a type, variables that hold values of their types, and trees whose parts have the types
-- that their places ask for.
use Rattle.std.specs.Prelude.{◌≡◌, ◌≤◌, ℕ, ℤ, List, length, slice_get, Option, Some}
use Rattle.std.specs.Prelude.{option_and_then}
use Rattle.d_types.specs.Vocabulary.{IntType, DType, KeyPart, Value, Var, IsNumber, bits_of}
use Rattle.d_types.specs.Vocabulary.{longest, Firing, BuiltIn, Operation, Variable}
use Rattle.d_types.specs.Typed.{ScriptMeant, Typed, Constant, Text, Fixed, Read, Unary, Operate}
use Rattle.d_types.specs.Typed.{Compare, CompareText, Logic, Choice, Convert, Assign, Update, Count}
use Rattle.d_types.specs.Typed.{Strlen, Strjoin, Typeds, end, more, type_of, type_of_built_in}
use Rattle.d_types.specs.Storage.{Variables}
use Rattle.d_types.specs.Variables.{kind_of_type}
use Rattle.d_types.specs.Expressions.{Outcome, Has, Faults, built_in_value, works_in}

-- ---- values

-- the 64-bit word of a number of the type
abbrev pub IsWord : IntType → ℕ → Type 0
IsWord t word = (n : ℤ) × IsNumber t n × (word ≡ bits_of n)

-- a value of the type: such a word, or a text that isn't too long
abbrev pub IsOf : DType → Value → Type 0
IsOf (DType.Int t) (Value.Int word) = IsWord t word
IsOf DType.Text (Value.Text bytes) = length bytes ≤ longest
IsOf _ _ = ⊥

-- each built-in of the firing is a value of its type
abbrev pub HasTypedBuiltIns : Firing → Type 0
HasTypedBuiltIns f = (b : BuiltIn) → IsOf (type_of_built_in b) (built_in_value f b)

-- ---- variables

-- the type that the variable of a slot has, if one is known
abbrev pub Slots : Type 0
Slots = ℕ → Option DType

-- the slots of a script
abbrev pub slots_of : ScriptMeant → Slots
slots_of m slot = option_and_then (λ t. t) (slice_get m.slots slot)

abbrev pub IsKnown : Slots → Variable → Type 0
IsKnown slots x = slots x.slot ≡ Some x.holds

-- each clause-local variable holds a value of its type
abbrev pub AreTypedLocals : Slots → (Var → Value) → Type 0
AreTypedLocals slots locals =
    (slot : ℕ) (t : DType) → slots slot ≡ Some t
    → IsOf t (locals (record { slot = slot; kind = kind_of_type t }))

-- each of a thread's variables holds a value of its type, at each key
abbrev pub AreTypedOwn : Slots → (Var → List KeyPart → Value) → Type 0
AreTypedOwn slots own =
    (slot : ℕ) (t : DType) (key : List KeyPart) → slots slot ≡ Some t
    → IsOf t (own (record { slot = slot; kind = kind_of_type t }) key)

-- all variables hold values of their types
abbrev pub AreTyped : Slots → Variables → Type 0
AreTyped slots vars = AreTypedLocals slots vars.locals × AreTypedOwn slots vars.own

-- what an evaluation gives is such, and the variables after it hold values of their types, also
-- after a fault
abbrev pub EndsTyped : {A : Type 0} → Slots → (A → Type 0) → Outcome A → Type 0
EndsTyped slots Is (Has x vars) = Is x × AreTyped slots vars
EndsTyped slots Is (Faults vars) = AreTyped slots vars

-- ---- trees

-- an integer of some type
abbrev pub IsSomeInteger : DType → Type 0
IsSomeInteger t = (u : IntType) × (t ≡ DType.Int u)

-- both operands have the operation's type; a shift's count is any integer
abbrev pub TakesOperands : Operation → DType → DType → Type 0
TakesOperands (Operation.Arithmetic o t) left right = (left ≡ DType.Int t) × (right ≡ DType.Int t)
TakesOperands (Operation.Shift o t) left right = (left ≡ DType.Int t) × IsSomeInteger right

abbrev mutual
  -- each constant is a value of its type, each variable has the type of its slot, and each part the
  -- type that its place asks for
  pub IsConsistent : Slots → Typed → Type 0
  IsConsistent slots (Constant t word) = IsWord t word
  IsConsistent slots (Text bytes) = length bytes ≤ longest
  IsConsistent slots (Fixed b) = Unit {0}
  IsConsistent slots (Read x keys) = IsKnown slots x × AreConsistent slots keys
  IsConsistent slots (Unary o t a) = (type_of a ≡ DType.Int t) × IsConsistent slots a
  IsConsistent slots (Operate o a b) =
      TakesOperands o (type_of a) (type_of b) × IsConsistent slots a × IsConsistent slots b
  IsConsistent slots (Compare o t a b) =
      (type_of a ≡ DType.Int t) × (type_of b ≡ DType.Int t) × IsConsistent slots a
      × IsConsistent slots b
  IsConsistent slots (CompareText o a b) =
      (type_of a ≡ DType.Text) × (type_of b ≡ DType.Text) × IsConsistent slots a
      × IsConsistent slots b
  IsConsistent slots (Logic o a b) =
      IsSomeInteger (type_of a) × IsSomeInteger (type_of b) × IsConsistent slots a
      × IsConsistent slots b
  IsConsistent slots (Choice t c a b) =
      IsSomeInteger (type_of c) × (type_of a ≡ t) × (type_of b ≡ t) × IsConsistent slots c
      × IsConsistent slots a × IsConsistent slots b
  IsConsistent slots (Convert t u a) = (type_of a ≡ DType.Int t) × IsConsistent slots a
  IsConsistent slots (Assign x keys a) =
      IsKnown slots x × AreConsistent slots keys × (type_of a ≡ x.holds) × IsConsistent slots a
  IsConsistent slots (Update o x keys a) =
      IsKnown slots x × AreConsistent slots keys × IsSomeInteger x.holds
      × TakesOperands o (DType.Int (works_in o)) (type_of a) × IsConsistent slots a
  IsConsistent slots (Count step answer x keys) =
      IsKnown slots x × AreConsistent slots keys × IsSomeInteger x.holds
  IsConsistent slots (Strlen a) = (type_of a ≡ DType.Text) × IsConsistent slots a
  IsConsistent slots (Strjoin a b) =
      (type_of a ≡ DType.Text) × (type_of b ≡ DType.Text) × IsConsistent slots a
      × IsConsistent slots b

  pub AreConsistent : Slots → Typeds → Type 0
  AreConsistent slots end = Unit {0}
  AreConsistent slots (more a rest) = IsConsistent slots a × AreConsistent slots rest
