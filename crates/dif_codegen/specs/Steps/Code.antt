-- The code of an expression.
use Rattle.std.specs.Prelude.{ℕ, zero, suc, ◌+◌, ◌-◌, Bool, true, false, ◌==◌, if◌then◌else◌}
use Rattle.d_types.specs.Typed.{Typed, Constant, Text, Fixed, Read, Unary, Operate, Compare}
use Rattle.d_types.specs.Typed.{CompareText, Logic, Choice, Convert, Assign, Update, Count, Strlen}
use Rattle.d_types.specs.Typed.{Strjoin, Typeds, end, more, type_of}
use Rattle.dif_codegen.specs.Vocabulary.{UnaryOperator, Step, IntType, DType, ArithmeticOperator}
use Rattle.dif_codegen.specs.Vocabulary.{ComparisonOperator, ShiftOperator, Var, Answer, BuiltIn}
use Rattle.dif_codegen.specs.Vocabulary.{LogicOperator, Operation, Space, works_in, count, var_of}
use Rattle.dif_codegen.specs.Vocabulary.{Condition, Equal, NotEqual, Greater, GreaterEqual, Less}
use Rattle.dif_codegen.specs.Vocabulary.{LessEqual, Above, AboveEqual, Below, BelowEqual, Function}
use Rattle.dif_codegen.specs.Vocabulary.{Instr, Alu, Not, Mov, Cmp, Tst, Scmp, Ldgs, Ldga, Ldts}
use Rattle.dif_codegen.specs.Vocabulary.{Stts, Ldls, Stls, Pushtr, Pushtv, Flushts, Ldtaa, Sttaa}
use Rattle.dif_codegen.specs.Vocabulary.{Call, Ret, Operator, Or, Xor, And, Sll, Srl, Sra, Sub, Add}
use Rattle.dif_codegen.specs.Vocabulary.{Mul, Sdiv, Udiv, Srem, Urem, Reg, R0, R1, R2, R3, R4, R5}
use Rattle.dif_codegen.specs.Vocabulary.{R6, R7}
use Rattle.dif_codegen.specs.Steps.Pieces.{Piece, Maker, nothing, one_instr, number, text, both}
use Rattle.dif_codegen.specs.Steps.Pieces.{choice_code, bit_by}

-- the register of a number below 8
abbrev pub register : ℕ → Reg
register zero = R0
register (suc zero) = R1
register (suc (suc zero)) = R2
register (suc (suc (suc zero))) = R3
register (suc (suc (suc (suc zero)))) = R4
register (suc (suc (suc (suc (suc zero))))) = R5
register (suc (suc (suc (suc (suc (suc zero)))))) = R6
register (suc (suc (suc (suc (suc (suc (suc n))))))) = R7

-- ---- operators

abbrev pub operator_of : ArithmeticOperator → Bool → Operator
operator_of ArithmeticOperator.Multiply signed = Mul
operator_of ArithmeticOperator.Divide true = Sdiv
operator_of ArithmeticOperator.Divide false = Udiv
operator_of ArithmeticOperator.Remainder true = Srem
operator_of ArithmeticOperator.Remainder false = Urem
operator_of ArithmeticOperator.Add signed = Add
operator_of ArithmeticOperator.Subtract signed = Sub
operator_of ArithmeticOperator.BitAnd signed = And
operator_of ArithmeticOperator.BitXor signed = Xor
operator_of ArithmeticOperator.BitOr signed = Or

abbrev pub condition_of : ComparisonOperator → Bool → Condition
condition_of ComparisonOperator.Equal signed = Equal
condition_of ComparisonOperator.NotEqual signed = NotEqual
condition_of ComparisonOperator.Less true = Less
condition_of ComparisonOperator.Less false = Below
condition_of ComparisonOperator.LessEqual true = LessEqual
condition_of ComparisonOperator.LessEqual false = BelowEqual
condition_of ComparisonOperator.Greater true = Greater
condition_of ComparisonOperator.Greater false = Above
condition_of ComparisonOperator.GreaterEqual true = GreaterEqual
condition_of ComparisonOperator.GreaterEqual false = AboveEqual

abbrev pub shift_right : Bool → Operator
shift_right true = Sra
shift_right false = Srl

-- shifted left until the type's highest bit is the word's, and back with copies of the sign or with
-- zeros
abbrev pub shifts : ℕ → Bool → Reg → Maker
shifts count signed d =
    both (number count R7)
    (both (one_instr (Alu Sll d R7 d)) (one_instr (Alu (shift_right signed) d R7 d)))

-- the word brought to its type; one of 64 bits is
abbrev pub narrowing : IntType → Reg → Maker
narrowing t d = if t.width == 64 then nothing else shifts (64 - t.width) t.signed d

abbrev pub unary_code : UnaryOperator → IntType → Reg → Maker
unary_code UnaryOperator.Not t d = bit_by (Tst d) Equal d
unary_code UnaryOperator.Complement t d = both (one_instr (Not d d)) (narrowing t d)
unary_code UnaryOperator.Negate t d = both (one_instr (Alu Sub R0 d d)) (narrowing t d)
unary_code UnaryOperator.Keep t d = nothing

abbrev pub shift_operator : ShiftOperator → Bool → Operator
shift_operator ShiftOperator.Left signed = Sll
shift_operator ShiftOperator.Right signed = shift_right signed

-- a shift's count modulo the width, which is a power of two
abbrev pub masking : IntType → Reg → Maker
masking t c = both (number (t.width - 1) R7) (one_instr (Alu And c R7 c))

-- an operator on two registers, into the first
abbrev pub operate_on : Operation → Reg → Reg → Maker
operate_on (Operation.Arithmetic o t) a b =
    both (one_instr (Alu (operator_of o t.signed) a b a)) (narrowing t a)
operate_on (Operation.Shift o t) a b =
    both (masking t b) (both (one_instr (Alu (shift_operator o t.signed) a b a)) (narrowing t a))

-- 1 if one of two registers is 0 and the other isn't, into the first
abbrev pub differing : Reg → Reg → Maker
differing a b = choice_code (Tst a) Equal (bit_by (Tst b) Equal a) (bit_by (Tst b) NotEqual a)

-- ---- what is read and changed

abbrev pub built_in_code : BuiltIn → Reg → Maker
built_in_code (BuiltIn.Argument n) d = both (number n d) (one_instr (Ldga 0 d d))
built_in_code BuiltIn.Timestamp d = one_instr (Ldgs 0 d)
built_in_code BuiltIn.Cpu d = one_instr (Ldgs 1 d)
built_in_code BuiltIn.Pid d = one_instr (Ldgs 2 d)
built_in_code BuiltIn.Tid d = one_instr (Ldgs 3 d)
built_in_code BuiltIn.Execname d = one_instr (Ldgs 4 d)
built_in_code BuiltIn.Probeprov d = one_instr (Ldgs 5 d)
built_in_code BuiltIn.Probemod d = one_instr (Ldgs 6 d)
built_in_code BuiltIn.Probefunc d = one_instr (Ldgs 7 d)
built_in_code BuiltIn.Probename d = one_instr (Ldgs 8 d)

abbrev pub load_from : Space → Var → Reg → Instr
load_from Space.Thread x d = Ldts x d
load_from Space.Clause x d = Ldls x d

abbrev pub store_to : Space → Var → Reg → Instr
store_to Space.Thread x a = Stts x a
store_to Space.Clause x a = Stls x a

-- ---- keys

-- a value as the next part of a key
abbrev pub push_of : DType → Reg → Instr
push_of (DType.Int t) a = Pushtv a
push_of DType.Text a = Pushtr a

-- the values in this register and those after it as the parts of a key
abbrev pub pushing : Typeds → ℕ → Maker
pushing end r = nothing
pushing (more a rest) r = both (one_instr (push_of (type_of a) (register r))) (pushing rest (r + 1))

-- an instruction on an element, whose keys are in this register and those after it; the tuple is
-- empty again after it
abbrev pub element_code : Typeds → ℕ → Instr → Maker
element_code keys r i = both (pushing keys r) (both (one_instr i) (one_instr Flushts))

-- the value of a variable
abbrev pub fetching : Space → Typeds → Var → ℕ → Reg → Maker
fetching Space.Clause keys x r d = one_instr (load_from Space.Clause x d)
fetching Space.Thread end x r d = one_instr (load_from Space.Thread x d)
fetching Space.Thread (more k ks) x r d = element_code (more k ks) r (Ldtaa x d)

-- a value into a variable
abbrev pub saving : Space → Typeds → Var → ℕ → Reg → Maker
saving Space.Clause keys x r a = one_instr (store_to Space.Clause x a)
saving Space.Thread end x r a = one_instr (store_to Space.Thread x a)
saving Space.Thread (more k ks) x r a = element_code (more k ks) r (Sttaa x a)

-- moves a value from after the keys to where they began
abbrev pub lowering : Typeds → Reg → Reg → Maker
lowering end a d = nothing
lowering (more k ks) a d = one_instr (Mov a d)

-- ---- changes

-- the word as one of a variable's type
abbrev pub holding : DType → Reg → Maker
holding (DType.Int t) d = narrowing t d
holding DType.Text d = nothing

abbrev pub step_operator : Step → Operator
step_operator Step.Increment = Add
step_operator Step.Decrement = Sub

abbrev pub opposite : Step → Step
opposite Step.Increment = Step.Decrement
opposite Step.Decrement = Step.Increment

-- one more or one less
abbrev pub stepping : Step → DType → Reg → Maker
stepping step t d =
    both (number 1 R7) (both (one_instr (Alu (step_operator step) d R7 d)) (holding t d))

-- what a step gives, from the new word
abbrev pub answering : Answer → Step → DType → Reg → Maker
answering Answer.New step t d = nothing
answering Answer.Old step t d = stepping (opposite step) t d

-- ---- functions of texts

abbrev pub measuring : Reg → Maker
measuring d =
    both (one_instr (Pushtr d)) (both (one_instr (Call Function.Strlen d)) (one_instr Flushts))

abbrev pub joining : Reg → Reg → Maker
joining d a =
    both (one_instr (Pushtr d))
    (both (one_instr (Pushtr a)) (both (one_instr (Call Function.Strjoin d)) (one_instr Flushts)))

-- ---- expressions

-- the value of an expression into the register of this number, by it and those above
abbrev mutual
  pub code_of : Typed → ℕ → Maker
  code_of (Constant t word) r = number word (register r)
  code_of (Text bytes) r = text bytes (register r)
  code_of (Fixed b) r = built_in_code b (register r)
  code_of (Read x keys) r =
      both (keys_code keys r) (fetching x.space keys (var_of x) r (register r))
  code_of (Unary o t a) r = both (code_of a r) (unary_code o t (register r))
  code_of (Operate o a b) r =
      both (code_of a r) (both (code_of b (r + 1)) (operate_on o (register r) (register (r + 1))))
  code_of (Compare o t a b) r =
      both (code_of a r)
      (both (code_of b (r + 1))
      (bit_by (Cmp (register r) (register (r + 1))) (condition_of o t.signed) (register r)))
  code_of (CompareText o a b) r =
      both (code_of a r)
      (both (code_of b (r + 1))
      (bit_by (Scmp (register r) (register (r + 1))) (condition_of o false) (register r)))
  code_of (Logic LogicOperator.Xor a b) r =
      both (code_of a r) (both (code_of b (r + 1)) (differing (register r) (register (r + 1))))
  code_of (Logic LogicOperator.And a b) r =
      both (code_of a r)
      (choice_code (Tst (register r)) Equal
      (both (code_of b r) (bit_by (Tst (register r)) NotEqual (register r)))
      (number 0 (register r)))
  code_of (Logic LogicOperator.Or a b) r =
      both (code_of a r)
      (choice_code (Tst (register r)) Equal
      (number 1 (register r))
      (both (code_of b r) (bit_by (Tst (register r)) NotEqual (register r))))
  code_of (Choice t c a b) r =
      both (code_of c r) (choice_code (Tst (register r)) Equal (code_of a r) (code_of b r))
  code_of (Convert t u a) r = both (code_of a r) (narrowing u (register r))
  code_of (Assign x keys a) r =
      both (keys_code keys r)
      (both (code_of a (r + count keys))
      (both (saving x.space keys (var_of x) r (register (r + count keys)))
      (lowering keys (register (r + count keys)) (register r))))
  code_of (Update o x keys a) r =
      both (keys_code keys r)
      (both (fetching x.space keys (var_of x) r (register (r + count keys)))
      (both (narrowing (works_in o) (register (r + count keys)))
      (both (code_of a (r + count keys + 1))
      (both (operate_on o (register (r + count keys)) (register (r + count keys + 1)))
      (both (holding x.holds (register (r + count keys)))
      (both (saving x.space keys (var_of x) r (register (r + count keys)))
      (lowering keys (register (r + count keys)) (register r))))))))
  code_of (Count step answer x keys) r =
      both (keys_code keys r)
      (both (fetching x.space keys (var_of x) r (register (r + count keys)))
      (both (stepping step x.holds (register (r + count keys)))
      (both (saving x.space keys (var_of x) r (register (r + count keys)))
      (both (answering answer step x.holds (register (r + count keys)))
      (lowering keys (register (r + count keys)) (register r))))))
  code_of (Strlen a) r = both (code_of a r) (measuring (register r))
  code_of (Strjoin a b) r =
      both (code_of a r) (both (code_of b (r + 1)) (joining (register r) (register (r + 1))))

  -- keys into this register and those after it
  pub keys_code : Typeds → ℕ → Maker
  keys_code end r = nothing
  keys_code (more a rest) r = both (code_of a r) (keys_code rest (r + 1))

-- the whole object: the value into the first register, and its return
abbrev pub object_code : Typed → Piece
object_code e = both (code_of e 1) (one_instr (Ret R1)) (record { at = 0; texts = 0; numbers = 0 })
