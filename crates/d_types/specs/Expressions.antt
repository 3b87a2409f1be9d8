-- What an expression means: its value, or the fault, and the variables after it.
-- Source: Dynamic Tracing Guide, "Types, Operators, and Expressions".
use Rattle.std.specs.Prelude.{ℕ, ◌-◌, ◌^◌, zero, suc, List, [], ◌∷◌, length, Bool, Result, Ok, Err}
use Rattle.std.specs.Prelude.{if◌then◌else◌, pos, get_or}
use Rattle.d_types.specs.Vocabulary.{cast_unsigned, w64, UnaryOperator, Step, OutOfZero, IntType}
use Rattle.d_types.specs.Vocabulary.{DType, KeyPart, Value, holds_of, text_cmp, joined_text, narrow}
use Rattle.d_types.specs.Vocabulary.{binary_of, shift_of, order_of}
use Rattle.d_types.specs.Vocabulary.{sum_of, difference_of, Firing, Answer, BuiltIn, LogicOperator}
use Rattle.d_types.specs.Vocabulary.{Operation, Variable}
use Rattle.d_types.specs.Typed.{Typed, Constant, Text, Fixed, Read, Unary, Operate, Compare}
use Rattle.d_types.specs.Typed.{CompareText, Logic, Choice, Convert, Assign, Update, Count, Strlen}
use Rattle.d_types.specs.Typed.{Strjoin, Typeds, end, more}
use Rattle.d_types.specs.Storage.{Variables, word_of, bytes_of, value_of_variable, set}
pub use Rattle.d_types.specs.Typed.{works_in}
pub use Rattle.d_values.specs.Keys.{part_of}
pub use Rattle.d_values.specs.Outcomes.{Outcome, Has, Faults, with}

-- ---- how an evaluation ends

-- the operator's word, or the fault at a divisor of zero
abbrev pub word_or_fault : Result ℕ OutOfZero → Variables → Outcome ℕ
word_or_fault (Ok word) vars = Has word vars
word_or_fault (Err e) vars = Faults vars

-- the word of what it has
abbrev pub number_outcome : Outcome Value → Outcome ℕ
number_outcome o = with o (λ x. Has (word_of x))

-- goes on with the word of an integer
abbrev pub number : {A : Type 0} → Outcome Value → (ℕ → Variables → Outcome A) → Outcome A
number o go = with (number_outcome o) go

-- the bytes of what it has
abbrev pub text_outcome : Outcome Value → Outcome (List ℕ)
text_outcome o = with o (λ x. Has (bytes_of x))

-- the word, as a value
abbrev pub integer : Outcome ℕ → Outcome Value
integer o = with o (λ word. Has (Value.Int word))

-- ---- values

-- 1 for true, 0 for false
abbrev pub truth : Bool → ℕ
truth b = if b then 1 else 0

-- the first if the word is 0, and else the second
abbrev pub at_zero : {A : Type 0} → ℕ → A → A → A
at_zero zero a b = a
at_zero (suc n) a b = b

-- 1, but 0 stays
abbrev pub bit : ℕ → ℕ
bit word = at_zero word 0 1

-- 0 becomes 1, and all else 0
abbrev pub inverse : ℕ → ℕ
inverse word = at_zero word 1 0

abbrev pub built_in_value : Firing → BuiltIn → Value
built_in_value f (BuiltIn.Argument n) = Value.Int (cast_unsigned w64 (get_or f.args n (pos 0)))
built_in_value f BuiltIn.Timestamp = Value.Int f.time
built_in_value f BuiltIn.Cpu = Value.Int (cast_unsigned w64 f.cpu)
built_in_value f BuiltIn.Pid = Value.Int (cast_unsigned w64 f.pid)
built_in_value f BuiltIn.Tid = Value.Int (cast_unsigned w64 f.thread)
built_in_value f BuiltIn.Execname = Value.Text f.execname
built_in_value f BuiltIn.Probeprov = Value.Text f.provider
built_in_value f BuiltIn.Probemod = Value.Text f.probemod
built_in_value f BuiltIn.Probefunc = Value.Text f.probefunc
built_in_value f BuiltIn.Probename = Value.Text f.name

-- ---- operators

abbrev pub unary_of : UnaryOperator → IntType → ℕ → ℕ
unary_of UnaryOperator.Not t word = inverse word
unary_of UnaryOperator.Complement t word = narrow t (2 ^ 64 - 1 - word)
unary_of UnaryOperator.Negate t word = narrow t (difference_of 0 word)
unary_of UnaryOperator.Keep t word = word

abbrev pub operation_of : Operation → ℕ → ℕ → Result ℕ OutOfZero
operation_of (Operation.Arithmetic o t) x y = binary_of o t x y
operation_of (Operation.Shift o t) x y = Ok (shift_of o t x y)

-- the word as one of the variable's type
abbrev pub word_as_type : DType → ℕ → ℕ
word_as_type (DType.Int t) word = narrow t word
word_as_type DType.Text word = word

abbrev pub step_result : Step → ℕ → ℕ
step_result Step.Increment word = sum_of word 1
step_result Step.Decrement word = difference_of word 1

-- before the variable the new value, after it the old one
abbrev pub step_value : Answer → ℕ → ℕ → ℕ
step_value Answer.New old new = new
step_value Answer.Old old new = old

-- ---- variables

-- the variable gets the value, and the expression has it
abbrev pub assignment_outcome : Variable → List KeyPart → Value → Variables → Outcome Value
assignment_outcome x key value vars = Has value (set vars x key value)

-- the variable gets the word, as one of its type
abbrev pub update_outcome : Variable → List KeyPart → ℕ → Variables → Outcome Value
update_outcome x key word = assignment_outcome x key (Value.Int (word_as_type x.holds word))

-- the variable moves by one from the word that it has
abbrev pub step_outcome : Step → Answer → Variable → List KeyPart → ℕ → Variables → Outcome Value
step_outcome step answer x key old vars =
    let new = word_as_type x.holds (step_result step old) in
    Has (Value.Int (step_value answer old new)) (set vars x key (Value.Int new))

-- ---- expressions

abbrev mutual
  -- how the expression ends at this firing, from these variables
  pub eval : Firing → Typed → Variables → Outcome Value
  eval f (Constant t word) vars = Has (Value.Int word) vars
  eval f (Text bytes) vars = Has (Value.Text bytes) vars
  eval f (Fixed b) vars = Has (built_in_value f b) vars
  eval f (Read x keys) vars =
      with (keys_of f keys vars) (λ key vars. Has (value_of_variable vars x key) vars)
  eval f (Unary o t a) vars = number (eval f a vars) (λ x. Has (Value.Int (unary_of o t x)))
  eval f (Operate o a b) vars =
      number (eval f a vars) (λ x vars. number (eval f b vars)
      (λ y vars. integer (word_or_fault (operation_of o x y) vars)))
  eval f (Compare o t a b) vars =
      number (eval f a vars) (λ x vars. number (eval f b vars)
      (λ y. Has (Value.Int (truth (holds_of o (order_of t x y))))))
  eval f (CompareText o a b) vars =
      with (text_outcome (eval f a vars)) (λ x vars. with (text_outcome (eval f b vars))
      (λ y. Has (Value.Int (truth (holds_of o (text_cmp x y))))))
  eval f (Logic LogicOperator.And a b) vars =
      number (eval f a vars) (λ x vars. at_zero x (Has (Value.Int 0) vars)
      (number (eval f b vars) (λ y. Has (Value.Int (bit y)))))
  eval f (Logic LogicOperator.Or a b) vars =
      number (eval f a vars) (λ x vars. at_zero x
      (number (eval f b vars) (λ y. Has (Value.Int (bit y)))) (Has (Value.Int 1) vars))
  eval f (Logic LogicOperator.Xor a b) vars =
      number (eval f a vars) (λ x vars. number (eval f b vars)
      (λ y. Has (Value.Int (at_zero x (bit y) (inverse y)))))
  eval f (Choice t c a b) vars =
      number (eval f c vars) (λ x vars. at_zero x (eval f b vars) (eval f a vars))
  eval f (Convert t u a) vars = number (eval f a vars) (λ x. Has (Value.Int (narrow u x)))
  -- the keys, then the right side, then the change
  eval f (Assign x keys a) vars =
      with (keys_of f keys vars) (λ key vars. with (eval f a vars) (assignment_outcome x key))
  -- the variable is read before the right side is evaluated
  eval f (Update o x keys a) vars =
      with (keys_of f keys vars) (λ key vars. number (eval f a vars) (λ y after.
      let old = narrow (works_in o) (word_of (value_of_variable vars x key)) in
      with (word_or_fault (operation_of o old y) after) (update_outcome x key)))
  eval f (Count step answer x keys) vars =
      with (keys_of f keys vars)
      (λ key vars. step_outcome step answer x key (word_of (value_of_variable vars x key)) vars)
  eval f (Strlen a) vars = with (text_outcome (eval f a vars)) (λ x. Has (Value.Int (length x)))
  eval f (Strjoin a b) vars =
      with (text_outcome (eval f a vars)) (λ x vars. with (text_outcome (eval f b vars))
      (λ y. Has (Value.Text (joined_text x y))))

  -- keys, from left to right
  pub keys_of : Firing → Typeds → Variables → Outcome (List KeyPart)
  keys_of f end vars = Has [] vars
  keys_of f (more a rest) vars =
      with (eval f a vars) (λ x vars. with (keys_of f rest vars) (λ key. Has (part_of x ∷ key)))
