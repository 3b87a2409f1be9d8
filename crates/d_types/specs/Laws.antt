-- What evaluation never does, by what the expression has.
use Rattle.std.specs.Prelude.{◌≡◌, ℕ, Bool, true, false, ◌||◌, List}
use Rattle.d_types.specs.Vocabulary.{Step, IntType, KeyPart, ArithmeticOperator, Value, INT32}
use Rattle.d_types.specs.Vocabulary.{common_of, divides, Firing, Operation, Variable}
use Rattle.d_types.specs.Typed.{Typed, Constant, Text, Fixed, Read, Unary, Operate, Compare}
use Rattle.d_types.specs.Typed.{CompareText, Logic, Choice, Convert, Assign, Update, Count, Strlen}
use Rattle.d_types.specs.Typed.{Strjoin, Typeds, end, more}
use Rattle.d_types.specs.Storage.{Variables, value_of_variable}
use Rattle.d_types.specs.Expressions.{Outcome, Has, Faults, with, works_in, keys_of}
use Rattle.d_types.specs.{Held.IsOf, Operators.conversion_node}

-- `/` or `%`
abbrev pub is_division : Operation → Bool
is_division (Operation.Arithmetic o t) = divides o
is_division (Operation.Shift o t) = false

abbrev mutual
  -- an expression has an assignment, `++` or `--`
  pub assigns : Typed → Bool
  assigns (Constant t word) = false
  assigns (Text bytes) = false
  assigns (Fixed b) = false
  assigns (Read x keys) = assigns_in keys
  assigns (Unary o t a) = assigns a
  assigns (Operate o a b) = assigns a || assigns b
  assigns (Compare o t a b) = assigns a || assigns b
  assigns (CompareText o a b) = assigns a || assigns b
  assigns (Logic o a b) = assigns a || assigns b
  assigns (Choice t c a b) = assigns c || (assigns a || assigns b)
  assigns (Convert t u a) = assigns a
  assigns (Assign x keys a) = true
  assigns (Update o x keys a) = true
  assigns (Count step answer x keys) = true
  assigns (Strlen a) = assigns a
  assigns (Strjoin a b) = assigns a || assigns b

  pub assigns_in : Typeds → Bool
  assigns_in end = false
  assigns_in (more a rest) = assigns a || assigns_in rest

abbrev mutual
  -- an expression has `/`, `%`, `/=` or `%=`
  pub has_division : Typed → Bool
  has_division (Constant t word) = false
  has_division (Text bytes) = false
  has_division (Fixed b) = false
  has_division (Read x keys) = has_division_in keys
  has_division (Unary o t a) = has_division a
  has_division (Operate o a b) = is_division o || (has_division a || has_division b)
  has_division (Compare o t a b) = has_division a || has_division b
  has_division (CompareText o a b) = has_division a || has_division b
  has_division (Logic o a b) = has_division a || has_division b
  has_division (Choice t c a b) = has_division c || (has_division a || has_division b)
  has_division (Convert t u a) = has_division a
  has_division (Assign x keys a) = has_division_in keys || has_division a
  has_division (Update o x keys a) = is_division o || (has_division_in keys || has_division a)
  has_division (Count step answer x keys) = has_division_in keys
  has_division (Strlen a) = has_division a
  has_division (Strjoin a b) = has_division a || has_division b

  pub has_division_in : Typeds → Bool
  has_division_in end = false
  has_division_in (more a rest) = has_division a || has_division_in rest

-- the variables after it
abbrev pub variables_after : {A : Type 0} → Outcome A → Variables
variables_after (Has x vars) = vars
variables_after (Faults vars) = vars

abbrev pub is_fault : {A : Type 0} → Outcome A → Bool
is_fault (Has x vars) = false
is_fault (Faults vars) = true

-- ---- changes in place

-- evaluating the keys a second time gives the same key, and leaves the variables as they are
abbrev pub AreRepeatable : Firing → Typeds → Variables → Type 0
AreRepeatable f keys vars =
    (key : List KeyPart) (after : Variables) → keys_of f keys vars ≡ Has key after
    → keys_of f keys after ≡ Has key after

-- once its keys are evaluated, the variable or element holds a value of its type
abbrev pub HoldsItsType : Firing → Variable → Typeds → Variables → Type 0
HoldsItsType f x keys vars =
    (key : List KeyPart) (after : Variables) → keys_of f keys vars ≡ Has key after
    → IsOf x.holds (value_of_variable after x key)

-- `x[keys] op e` as a value of the type t of x
abbrev pub in_place : Operation → IntType → Variable → Typeds → Typed → Typed
in_place o t x keys e =
    conversion_node (works_in o) t (Operate o (conversion_node t (works_in o) (Read x keys)) e)

-- the operator of `++` and of `--`
abbrev pub operator_of_step : Step → ArithmeticOperator
operator_of_step Step.Increment = ArithmeticOperator.Add
operator_of_step Step.Decrement = ArithmeticOperator.Subtract

-- `x[keys] += 1` or `x[keys] -= 1`, of a variable of type t
abbrev pub changed_by_one : Step → IntType → Variable → Typeds → Typed
changed_by_one by t x keys =
    Update (Operation.Arithmetic (operator_of_step by) (common_of t INT32)) x keys
    (conversion_node INT32 (common_of t INT32) (Constant INT32 1))

-- what there is, as an integer, with these variables after it
abbrev pub with_after : Variables → Outcome ℕ → Outcome Value
with_after after o = with o (λ word vars. Has (Value.Int word) after)
