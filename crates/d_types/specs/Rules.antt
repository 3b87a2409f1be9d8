-- The rule of each construct: what it is typed as.
-- Source: Dynamic Tracing Guide, "Type Promotion" and "Type Conversions".
use Rattle.std.specs.Prelude.{◌≡◌, ℕ, nat_le, List, [], ◌∷◌, ◌++◌, length, ◌⊎◌, true, Option, Some}
use Rattle.std.specs.Prelude.{None}
use Rattle.d_types.specs.Vocabulary.{Int, Text, Step, IntType, DType, promoted_of, common_of}
use Rattle.d_types.specs.Vocabulary.{Answer, Space, Operation, BinaryOperator}
use Rattle.d_types.specs.Vocabulary.{AssignOperator, Callee}
use Rattle.d_types.specs.Typed.{Typed, Typeds, end, more, type_of}
use Rattle.d_types.specs.Variables.{Rows, find, type_at, keys_at, set_type, kinds_of_typed}
use Rattle.d_types.specs.Needs.{count}
use Rattle.d_types.specs.Words.{callee_named}
use Rattle.d_types.specs.Operators.{conversion_node}
use Rattle.d_types.specs.Targets.{most_keys, new_row, settle_slot}

abbrev pub IsInteger : Typed → IntType → Type 0
IsInteger x t = type_of x ≡ Int t

abbrev pub HasTextType : Typed → Type 0
HasTextType x = type_of x ≡ Text

-- ---- operators

-- z is the operator between x and y, which are converted to the type that it works in
abbrev pub IsOperation : BinaryOperator → Typed → Typed → Typed → Type 0
IsOperation (BinaryOperator.Arithmetic op) x y z =
    (t : IntType) × (u : IntType) × IsInteger x t × IsInteger y u
    × (let c = common_of t u in
    z ≡ Typed.Operate (Operation.Arithmetic op c) (conversion_node t c x) (conversion_node u c y))
IsOperation (BinaryOperator.Shift op) x y z =
    (t : IntType) × (u : IntType) × IsInteger x t × IsInteger y u
    × (z ≡ Typed.Operate (Operation.Shift op (promoted_of t))
    (conversion_node t (promoted_of t) x) y)
IsOperation (BinaryOperator.Compare op) x y z =
    ((t : IntType) × (u : IntType) × IsInteger x t × IsInteger y u × (let c = common_of t u in
    z ≡ Typed.Compare op c (conversion_node t c x) (conversion_node u c y)))
    ⊎ (HasTextType x × HasTextType y × (z ≡ Typed.CompareText op x y))
IsOperation (BinaryOperator.Logic op) x y z =
    (t : IntType) × (u : IntType) × IsInteger x t × IsInteger y u × (z ≡ Typed.Logic op x y)

-- z is `x ? y : w`, of which y and w are converted to one type
abbrev pub IsChoice : Typed → Typed → Typed → Typed → Type 0
IsChoice x y w z =
    ((c : IntType) × (t : IntType) × (u : IntType) × IsInteger x c × IsInteger y t × IsInteger w u
    × (let d = common_of t u in
    z ≡ Typed.Choice (Int d) x (conversion_node t d y) (conversion_node u d w)))
    ⊎ ((c : IntType) × IsInteger x c × HasTextType y × HasTextType w
    × (z ≡ Typed.Choice Text x y w))

-- ---- variables that are assigned

-- the slot of an assigned variable of this name, and the table after it: the variable is new and
-- its keys are few, or it is known and the keys are of the same kinds
abbrev pub IsSlotOf : Space → List ℕ → Option DType → Typeds → Rows → ℕ → Rows → Type 0
IsSlotOf space name t keys rows slot after =
    ((find space name rows ≡ None) × (nat_le (count keys) (most_keys space) ≡ true)
    × (slot ≡ length rows) × (after ≡ rows ++ new_row space name t (kinds_of_typed keys) ∷ []))
    ⊎ ((find space name rows ≡ Some slot) × (keys_at rows slot ≡ Some (kinds_of_typed keys))
    × (after ≡ settle_slot (type_at rows slot) slot t rows))

-- y is x as a value of the type
abbrev pub IsConverted : Typed → DType → Typed → Type 0
IsConverted x (Int u) y = (t : IntType) × IsInteger x t × (y ≡ conversion_node t u x)
IsConverted x Text y = HasTextType x × (y ≡ x)

-- z assigns x, by `=` or with an operator, to the slot's variable at these keys
abbrev pub IsAssignment : AssignOperator → Space → ℕ → Typeds → Typed → Rows → Typed → Rows → Type 0
IsAssignment AssignOperator.Set space slot keys x rows z after =
    ((type_at rows slot ≡ None)
    × (z ≡ Typed.Assign (record { space = space; slot = slot; holds = type_of x }) keys x)
    × (after ≡ set_type slot (type_of x) rows))
    ⊎ ((t : DType) × (y : Typed) × (type_at rows slot ≡ Some t) × IsConverted x t y
    × (z ≡ Typed.Assign (record { space = space; slot = slot; holds = t }) keys y) × (after ≡ rows))
IsAssignment (AssignOperator.Arithmetic op) space slot keys x rows z after =
    (t : IntType) × (u : IntType) × (type_at rows slot ≡ Some (Int t)) × IsInteger x u
    × (z ≡ Typed.Update (Operation.Arithmetic op (common_of t u))
    (record { space = space; slot = slot; holds = Int t }) keys
    (conversion_node u (common_of t u) x)) × (after ≡ rows)
IsAssignment (AssignOperator.Shift op) space slot keys x rows z after =
    (t : IntType) × (u : IntType) × (type_at rows slot ≡ Some (Int t)) × IsInteger x u
    × (z ≡ Typed.Update (Operation.Shift op (promoted_of t))
    (record { space = space; slot = slot; holds = Int t }) keys x) × (after ≡ rows)

-- z adds 1 to the slot's integer or subtracts it, as the step says
abbrev pub IsStep : Step → Answer → Space → ℕ → Typeds → Rows → Typed → Type 0
IsStep by answer space slot keys rows z =
    (t : IntType) × (type_at rows slot ≡ Some (Int t))
    × (z ≡ Typed.Count by answer (record { space = space; slot = slot; holds = Int t }) keys)

-- ---- calls

-- z calls the function of this name, `strlen` or `strjoin`
abbrev pub IsCall : List ℕ → Typeds → Typed → Type 0
IsCall name args z =
    ((x : Typed) × (callee_named name ≡ Some Callee.Strlen) × (args ≡ more x end) × HasTextType x
    × (z ≡ Typed.Strlen x))
    ⊎ ((x : Typed) × (y : Typed) × (callee_named name ≡ Some Callee.Strjoin)
    × (args ≡ more x (more y end)) × HasTextType x × HasTextType y × (z ≡ Typed.Strjoin x y))
