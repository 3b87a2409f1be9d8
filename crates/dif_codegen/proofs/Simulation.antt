-- The machine follows the expression.
use Rattle.std.specs.Prelude.{◌≡◌, ◌≤◌, ◌<◌, ℕ, zero, suc, ◌+◌, ◌-◌, ◌%◌, ◌^◌, ◌==◌, ◌&&◌, Bool}
use Rattle.std.specs.Prelude.{true, false, List, [], ◌∷◌, ◌++◌, length, Some, None, Ok, Err}
use Rattle.std.specs.Prelude.{slice_index_or}
use Rattle.std.proofs.Common.{refl, sym, ap, ◌∙◌, subst, arith, cond, length-append}
use Rattle.d_parser.specs.declared.operators.Step.{Step}
use Rattle.d_parser.specs.declared.operators.UnaryOperator.{UnaryOperator}
use Rattle.d_parser.specs.declared.operators.UnaryOperator.TheVariants as un
use Rattle.d_values.specs.Operators.{holds_of}
use Rattle.d_values.specs.Texts.{text_cmp, joined_text}
use Rattle.d_values.specs.Types.{UINT64}
use Rattle.d_values.specs.Words.{narrow, operate, divides, binary_of, shift_of, order_of}
use Rattle.d_values.specs.Words.{difference_of}
use Rattle.d_values.specs.declared.int_type.IntType.{IntType}
use Rattle.d_values.specs.declared.int_type.DType.{DType}
use Rattle.d_values.specs.declared.int_type.DType.TheVariants as ty
use Rattle.d_values.specs.declared.key.KeyPart.{KeyPart}
use Rattle.d_values.specs.declared.key.KeyPart.TheVariants as ke
use Rattle.d_values.specs.declared.operators.ArithmeticOperator.{ArithmeticOperator}
use Rattle.d_values.specs.declared.value.Value.{Value}
use Rattle.d_values.specs.declared.value.Value.TheVariants as va
use Rattle.firings.specs.declared.firing.Firing.{Firing}
use Rattle.d_types.specs.declared.typed.Answer.{Answer}
use Rattle.d_types.specs.declared.typed.Answer.TheVariants as an
use Rattle.d_types.specs.declared.typed.BuiltIn.{BuiltIn}
use Rattle.d_types.specs.declared.typed.BuiltIn.TheVariants as bi
use Rattle.d_parser.specs.declared.operators.LogicOperator.TheVariants as lo
use Rattle.d_types.specs.declared.typed.Operation.{Operation}
use Rattle.d_types.specs.declared.typed.Operation.TheVariants as op
use Rattle.d_types.specs.declared.typed.Variable.{Variable}
use Rattle.d_types.specs.Expressions.{Outcome, Has, Faults, with, number_outcome, text_outcome}
use Rattle.d_types.specs.Expressions.{integer}
use Rattle.d_types.specs.Expressions.{word_or_fault, operation_of, eval, truth, bit, inverse}
use Rattle.d_types.specs.Expressions.{at_zero, unary_of, built_in_value, assignment_outcome}
use Rattle.d_types.specs.Expressions.{update_outcome, step_outcome, works_in, word_as_type}
use Rattle.d_types.specs.Expressions.{step_result, step_value, keys_of}
use Rattle.d_types.specs.Held.{IsOf, HasTypedBuiltIns, Slots, AreTyped, EndsTyped, IsKnown}
use Rattle.d_types.specs.Held.{IsConsistent, AreConsistent, IsSomeInteger, TakesOperands}
use Rattle.d_types.specs.Needs.{need, need_of_keys, count}
use Rattle.d_types.specs.Storage.{Variables, value_of_variable, value_in_space, var_of, set}
use Rattle.d_types.specs.Storage.{word_of}
use Rattle.d_types.specs.declared.typed.Space.{Space}
use Rattle.d_types.specs.declared.typed.Space.TheVariants as sp
use Rattle.d_types.specs.Typed.{Typed, Constant, Text, Fixed, Read, Unary, Operate, Compare}
use Rattle.d_types.specs.Typed.{CompareText, Logic, Choice, Convert, Assign, Update, Count, Strlen}
use Rattle.d_types.specs.Typed.{Strjoin, Typeds, end, more, type_of}
use Rattle.d_types.proofs.Holding.{eval_is, keys_are}
use Rattle.d_types.proofs.ValueTypes.{narrow_is}
use Rattle.dif_validate.specs.declared.instruction.Function.TheVariants as fu
use Rattle.dif_validate.specs.declared.instruction.Condition.TheVariants.{Equal, NotEqual}
use Rattle.dif_validate.specs.declared.instruction.Instr.{Instr}
use Rattle.dif_validate.specs.declared.instruction.Instr.TheVariants.{Alu, Not, Cmp, Tst, Scmp}
use Rattle.dif_validate.specs.declared.instruction.Instr.TheVariants.{Ldga, Pushtr, Flushts, Call}
use Rattle.dif_validate.specs.declared.instruction.Operator.TheVariants.{Sub, And}
use Rattle.dif_validate.specs.declared.register.Reg.TheVariants.{R0, R7}
use Rattle.dif_validate.specs.Objects.{Object}
use Rattle.dif_validate.specs.Registers.{at}
use Rattle.dif_machine.specs.Frames.{Frame}
use Rattle.dif_machine.specs.Frames as frames
use Rattle.dif_machine.specs.Operators.{result_of, comparison_of, text_comparison_of}
use Rattle.dif_machine.specs.Runs.{goes}
use Rattle.dif_machine.specs.Semantics as st
use Rattle.dif_codegen.specs.Steps.Code.{register, operator_of, condition_of, shift_operator}
use Rattle.dif_codegen.specs.Steps.Code.{masking, operate_on, differing, narrowing, unary_code}
use Rattle.dif_codegen.specs.Steps.Code.{built_in_code, fetching}
use Rattle.dif_codegen.specs.Steps.Code.{saving, lowering, holding, step_operator, opposite}
use Rattle.dif_codegen.specs.Steps.Code.{stepping}
use Rattle.dif_codegen.specs.Steps.Code.{answering, measuring, joining, code_of, keys_code}
use Rattle.dif_codegen.specs.Steps.Pieces as pieces
use Rattle.dif_codegen.specs.Steps.Pieces.{Place, Maker, one_instr, both, choice_code, bit_by, past}
use Rattle.dif_codegen.proofs.Leading.{Ready, Done, Usable, done_value, step, ready_on, same_ready}
use Rattle.dif_codegen.proofs.Leading.{Leads, put_leads, none_leads, number_leads, text_leads}
use Rattle.dif_codegen.proofs.Leading.{alu_leads, both_leads, both_number, both_text, choice_leads}
use Rattle.dif_codegen.proofs.Leading.{bit_leads}
use Rattle.dif_codegen.proofs.Meaning.{works, masked, shifts_as, texts_condition, is_zero}
use Rattle.dif_codegen.proofs.Meaning.{is_positive, zero_holds, positive_holds, condition_is}
use Rattle.dif_codegen.proofs.Meaning.{word_small, argument_is, step_is, stepped_back}
use Rattle.dif_codegen.proofs.Keyed.{AreThere, there_kept, ready_keyed, KeysLead}
use Rattle.dif_codegen.proofs.Keyed.{keys_first, keys_both, fetching_leads, saving_leads}
use Rattle.dif_codegen.proofs.Keyed.{lowering_leads}
use Rattle.dif_codegen.proofs.Narrowing.{narrow_leads}
use Rattle.dif_codegen.proofs.Standing.{Stands, stands_front, stands_back, at_is}
use Rattle.dif_codegen.proofs.Words.{unsigned_again, unsigned_small}

pub need_pos : (x : Typed) → 0 < need x
need_pos (Constant t word) = omega arith
need_pos (Text bytes) = omega arith
need_pos (Fixed b) = omega arith
need_pos (Read x keys) = omega arith
need_pos (Unary o t a) = need_pos a
need_pos (Operate o a b) = omega (arith, need_pos a)
need_pos (Compare o t a b) = omega (arith, need_pos a)
need_pos (CompareText o a b) = omega (arith, need_pos a)
need_pos (Logic lo.And a b) = omega (arith, need_pos a)
need_pos (Logic lo.Xor a b) = omega (arith, need_pos a)
need_pos (Logic lo.Or a b) = omega (arith, need_pos a)
need_pos (Choice t c a b) = omega (arith, need_pos c)
need_pos (Convert t u a) = need_pos a
need_pos (Assign x keys a) = omega (arith, need_pos a)
need_pos (Update o x keys a) = omega arith
need_pos (Count step answer x keys) = omega arith
need_pos (Strlen a) = need_pos a
need_pos (Strjoin a b) = omega (arith, need_pos a)

-- the keys fit
pub count_fits : (keys : Typeds) (n m : ℕ) → n ≤ m → need_of_keys n keys ≤ m → n + count keys ≤ m
count_fits end n m le h = omega arith
count_fits (more a rest) n m le h =
    let p = need_pos a in
    let q = count_fits rest (n + 1) m (omega arith) (omega arith) in
    omega arith

pub count_type : (o' : Operation) (u : DType) → TakesOperands o' (ty.Int (works_in o')) u → IsSomeInteger u
count_type (op.Arithmetic o' t) u takes = (t, takes.1)
count_type (op.Shift o' t) u takes = takes.1

module _ (o : Object) (f : Firing) where
  -- a piece that gives a value, and one that goes on with it
  then_leads : (r r1 : ℕ) (pl : Place) (g h : Maker) (s : Frame) (vars vars1 : Variables) (v : Value) (z : Outcome Value) → r ≤ r1 → Stands o pl (both g h pl)
      → (Stands o pl (g pl) → Leads o f r1 (pl.at + length (g pl).code) s vars (Has v vars1))
      → ((pl1 : Place) → Stands o pl1 (h pl1) → (t : Frame) → Done r1 pl1.at s t v → Leads o f r (pl1.at + length (h pl1).code) t vars1 z)
      → Leads o f r (pl.at + length (both g h pl).code) s vars z
  then_leads r r1 pl g h s vars vars1 v z le stands a b =
      both_leads o f r r1 pl g h s vars (Has v vars1) (λ x w. z) le stands a
      (λ pl1 st1 x w t is d. by x w pl1 st1 t is d)
    where
      by : (x : Value) (w : Variables) (pl1 : Place) → Stands o pl1 (h pl1) → (t : Frame) → Has v vars1 ≡ Has x w → Done r1 pl1.at s t x → Leads o f r (pl1.at + length (h pl1).code) t w z
      by x w pl1 st1 t is d =
          let e : v ≡ x = cc in
          let e' : vars1 ≡ w = cc in
          subst (λ w. Leads o f r (pl1.at + length (h pl1).code) t w z) e' (b pl1 st1 t (subst (Done r1 pl1.at s t) (sym e) d))

  zero_leads : (r pc : ℕ) (s : Frame) (vars : Variables) (x : ℕ) (a b : Outcome Value) → Leads o f r pc s vars (cond (is_zero x) a b) → Leads o f r pc s vars (at_zero x a b)
  zero_leads r pc s vars zero a b h = h
  zero_leads r pc s vars (suc x) a b h = h

  truth_leads : (r pc : ℕ) (s : Frame) (vars : Variables) (way : Bool) → Leads o f r pc s vars (cond way (Has (va.Int 1) vars) (Has (va.Int 0) vars)) → Leads o f r pc s vars (Has (va.Int (truth way)) vars)
  truth_leads r pc s vars true h = h
  truth_leads r pc s vars false h = h

  inverse_leads : (r pc : ℕ) (s : Frame) (vars : Variables) (x : ℕ) → Leads o f r pc s vars (cond (is_zero x) (Has (va.Int 1) vars) (Has (va.Int 0) vars)) → Leads o f r pc s vars (Has (va.Int (inverse x)) vars)
  inverse_leads r pc s vars zero h = h
  inverse_leads r pc s vars (suc x) h = h

  positive_leads : (r pc : ℕ) (s : Frame) (vars : Variables) (x : ℕ) → Leads o f r pc s vars (cond (is_positive x) (Has (va.Int 1) vars) (Has (va.Int 0) vars)) → Leads o f r pc s vars (Has (va.Int (bit x)) vars)
  positive_leads r pc s vars zero h = h
  positive_leads r pc s vars (suc x) h = h

  -- a test of a register
  tested : (r x : ℕ) (s : Frame) (vars : Variables) → r ≤ 7 → slice_index_or s.registers r None ≡ Some (va.Int x) → st.act (Tst (register r)) o f s vars ≡ st.Goes (frames.with_comparison s (comparison_of x 0)) vars
  tested r x s vars le val = rw (at_is s.registers r le, val) refl

  -- 1, but 0 stays
  bit_of_leads : (r : ℕ) (pl : Place) (x : ℕ) (s : Frame) (vars : Variables) → Usable r → length s.registers ≡ 8 → s.pc ≡ pl.at → slice_index_or s.registers r None ≡ Some (va.Int x) → Stands o pl (bit_by (Tst (register r)) NotEqual (register r) pl)
      → Leads o f r (pl.at + length (bit_by (Tst (register r)) NotEqual (register r) pl).code) s vars (Has (va.Int (bit x)) vars)
  bit_of_leads r pl x s vars u long e val stands =
      positive_leads r _ s vars x (bit_leads o f r pl (Tst (register r)) NotEqual s vars (comparison_of x 0) (is_positive x) u long e stands (tested r x s vars u.high val) (positive_holds x))

  -- a word of 64 bits, then brought to its type
  word_leads : (t : IntType) (r : ℕ) (pl : Place) (i : Instr) (word z : ℕ) (s : Frame) (vars : Variables) → Usable r → r < 7 → length s.registers ≡ 8 → s.pc ≡ pl.at → word < 2 ^ 64 → narrow t word ≡ z → Stands o pl (both (one_instr i) (narrowing t (register r)) pl)
      → st.act i o f s vars ≡ st.puts s (register r) (va.Int word) vars → Leads o f r (pl.at + length (both (one_instr i) (narrowing t (register r)) pl).code) s vars (Has (va.Int z) vars)
  word_leads t r pl i word z s vars u lt long e small same stands is =
      then_leads r r pl (one_instr i) (narrowing t (register r)) s vars vars (va.Int word) (Has (va.Int z) vars) (omega arith) stands
      (λ st1. put_leads o f r pl.at (va.Int word) s vars vars i u long e st1.code.0 is)
      (λ pl1 st1 t1 d. subst (λ n. Leads o f r (pl1.at + length (narrowing t (register r) pl1).code) t1 vars (Has (va.Int n) vars)) same (narrow_leads o f t r pl1 word t1 vars u lt d.long d.at d.value small st1))

  unary_leads : (o' : UnaryOperator) (t : IntType) (r : ℕ) (pl : Place) (x : ℕ) (s : Frame) (vars : Variables) → Usable r → r < 7 → Ready s → s.pc ≡ pl.at → slice_index_or s.registers r None ≡ Some (va.Int x)
      → Stands o pl (unary_code o' t (register r) pl) → Leads o f r (pl.at + length (unary_code o' t (register r) pl).code) s vars (Has (va.Int (unary_of o' t x)) vars)
  unary_leads un.Not t r pl x s vars u lt ready e val stands =
      inverse_leads r _ s vars x (bit_leads o f r pl (Tst (register r)) Equal s vars (comparison_of x 0) (is_zero x) u ready.long e stands (tested r x s vars u.high val) (zero_holds x))
  unary_leads un.Complement t r pl x s vars u lt ready e val stands =
      word_leads t r pl (Not (register r) (register r)) (narrow UINT64 (2 ^ 64 - 1 - x)) (narrow t (2 ^ 64 - 1 - x)) s vars u lt ready.long e (unsigned_small (2 ^ 64 - 1 - x)) (unsigned_again t (2 ^ 64 - 1 - x)) stands
      (rw (at_is s.registers r u.high, val) refl)
  unary_leads un.Negate t r pl x s vars u lt ready e val stands =
      word_leads t r pl (Alu Sub R0 (register r) (register r)) (narrow UINT64 (difference_of 0 x)) (narrow t (difference_of 0 x)) s vars u lt ready.long e (unsigned_small (difference_of 0 x)) (unsigned_again t (difference_of 0 x)) stands
      (rw (ready.zero_is, at_is s.registers r u.high, val) refl)
  unary_leads un.Keep t r pl x s vars u lt ready e val stands = none_leads o f r pl.at (va.Int x) s vars ready.long e val

  operator_leads : (a : ArithmeticOperator) (t : IntType) (r : ℕ) (pl : Place) (x y : ℕ) (s : Frame) (vars : Variables) → Usable r → r + 1 < 7 → length s.registers ≡ 8 → s.pc ≡ pl.at → slice_index_or s.registers r None ≡ Some (va.Int x) → slice_index_or s.registers (r + 1) None ≡ Some (va.Int y)
      → Stands o pl (both (one_instr (Alu (operator_of a t.signed) (register r) (register (r + 1)) (register r))) (narrowing t (register r)) pl)
      → Leads o f r (pl.at + length (both (one_instr (Alu (operator_of a t.signed) (register r) (register (r + 1)) (register r))) (narrowing t (register r)) pl).code) s vars (integer (word_or_fault (binary_of a t x y) vars))
  operator_leads a t r pl x y s vars u lt long e vx vy stands = by (divides a && (y == 0)) (works a t x y).is
    where
      i : Instr
      i = Alu (operator_of a t.signed) (register r) (register (r + 1)) (register r)

      at_r : at s.registers (register r) ≡ Some (va.Int x)
      at_r = at_is s.registers r u.high ∙ vx

      at_r1 : at s.registers (register (r + 1)) ≡ Some (va.Int y)
      at_r1 = at_is s.registers (r + 1) (omega arith) ∙ vy

      by : (none : Bool) → result_of (operator_of a t.signed) x y ≡ cond none (Err (record {})) (Ok (works a t x y).word)
          → Leads o f r (pl.at + length (both (one_instr i) (narrowing t (register r)) pl).code) s vars (integer (word_or_fault (cond none (Err (record {})) (Ok (narrow t (operate a t.signed x y)))) vars))
      by true is = alu_leads o f r pl.at x y (Err (record {})) (register r) (register (r + 1)) (operator_of a t.signed) s vars u long e stands.code.0 at_r at_r1 is
      by false is =
          word_leads t r pl i (works a t x y).word (narrow t (operate a t.signed x y)) s vars u (omega arith) long e (works a t x y).small (works a t x y).same stands
          (rw (at_r, at_r1, is) refl)

  masking_leads : (t : IntType) (r : ℕ) (pl : Place) (y : ℕ) (s : Frame) (vars : Variables) → Usable r → r < 7 → length s.registers ≡ 8 → s.pc ≡ pl.at → slice_index_or s.registers r None ≡ Some (va.Int y)
      → Stands o pl (masking t (register r) pl) → Leads o f r (pl.at + length (masking t (register r) pl).code) s vars (Has (va.Int (y % t.width)) vars)
  masking_leads t r pl y s vars u lt long e vy stands =
      then_leads r 7 pl (pieces.number (t.width - 1) R7) (one_instr (Alu And (register r) R7 (register r))) s vars vars (va.Int (t.width - 1)) (Has (va.Int (y % t.width)) vars) (omega arith) stands
      (λ st1. number_leads o f 7 pl (t.width - 1) s vars (record { low = omega arith; high = omega arith }) long e st1)
      (λ pl1 st1 t1 d. put_leads o f r pl1.at (va.Int (y % t.width)) t1 vars vars (Alu And (register r) R7 (register r)) u d.long d.at st1.code.0
      (rw (at_is t1.registers r u.high, d.kept r lt, vy, d.value) (ap (λ w. st.puts t1 (register r) (va.Int w) vars) (masked t.width y t.known))))

  operated_leads : (o' : Operation) (r : ℕ) (pl : Place) (x y : ℕ) (s : Frame) (vars : Variables) → Usable r → r + 1 < 7 → length s.registers ≡ 8 → s.pc ≡ pl.at → slice_index_or s.registers r None ≡ Some (va.Int x) → slice_index_or s.registers (r + 1) None ≡ Some (va.Int y)
      → Stands o pl (operate_on o' (register r) (register (r + 1)) pl) → Leads o f r (pl.at + length (operate_on o' (register r) (register (r + 1)) pl).code) s vars (integer (word_or_fault (operation_of o' x y) vars))
  operated_leads (op.Arithmetic a t) r pl x y s vars u lt long e vx vy stands = operator_leads a t r pl x y s vars u lt long e vx vy stands
  operated_leads (op.Shift a t) r pl x y s vars u lt long e vx vy stands =
      let i = Alu (shift_operator a t.signed) (register r) (register (r + 1)) (register r) in
      let h = shifts_as a t x y in
      then_leads r (r + 1) pl (masking t (register (r + 1))) (both (one_instr i) (narrowing t (register r))) s vars vars (va.Int (y % t.width)) (Has (va.Int (shift_of a t x y)) vars) (omega arith) stands
      (λ st1. masking_leads t (r + 1) pl y s vars (record { low = omega arith; high = omega arith }) lt long e vy st1)
      (λ pl1 st1 t1 d. word_leads t r pl1 i h.word (shift_of a t x y) t1 vars u (omega arith) d.long d.at h.small h.same st1
      (rw (at_is t1.registers r u.high, d.kept r (omega arith), vx, at_is t1.registers (r + 1) (omega arith), d.value, h.is) refl))

  either_leads : (r pc : ℕ) (s : Frame) (vars : Variables) (x a b : ℕ) → Leads o f r pc s vars (cond (is_zero x) (Has (va.Int a) vars) (Has (va.Int b) vars)) → Leads o f r pc s vars (Has (va.Int (at_zero x a b)) vars)
  either_leads r pc s vars zero a b h = h
  either_leads r pc s vars (suc x) a b h = h

  differing_leads : (r : ℕ) (pl : Place) (x y : ℕ) (s : Frame) (vars : Variables) → Usable r → r + 1 ≤ 7 → length s.registers ≡ 8 → s.pc ≡ pl.at → slice_index_or s.registers r None ≡ Some (va.Int x) → slice_index_or s.registers (r + 1) None ≡ Some (va.Int y)
      → Stands o pl (differing (register r) (register (r + 1)) pl) → Leads o f r (pl.at + length (differing (register r) (register (r + 1)) pl).code) s vars (Has (va.Int (at_zero x (bit y) (inverse y))) vars)
  differing_leads r pl x y s vars u lt long e vx vy stands =
      let test = Tst (register (r + 1)) in
      either_leads r _ s vars x (bit y) (inverse y)
      (choice_leads o f r pl (Tst (register r)) Equal (bit_by test Equal (register r)) (bit_by test NotEqual (register r)) s vars (comparison_of x 0) (Has (va.Int (inverse y)) vars) (Has (va.Int (bit y)) vars) (is_zero x) e stands (tested r x s vars u.high vx) (zero_holds x)
      (λ pl1 st1 t te tr tt'.
      inverse_leads r _ t vars y (bit_leads o f r pl1 test Equal t vars (comparison_of y 0) (is_zero y) u (ap length tr ∙ long) te st1 (tested (r + 1) y t vars lt (ap (λ xs. slice_index_or xs (r + 1) None) tr ∙ vy)) (zero_holds y)))
      (λ pl1 st1 t te tr tt'.
      positive_leads r _ t vars y (bit_leads o f r pl1 test NotEqual t vars (comparison_of y 0) (is_positive y) u (ap length tr ∙ long) te st1 (tested (r + 1) y t vars lt (ap (λ xs. slice_index_or xs (r + 1) None) tr ∙ vy)) (positive_holds y))))

  built_in_leads : (b : BuiltIn) (r : ℕ) (pl : Place) (s : Frame) (vars : Variables) → Usable r → length s.registers ≡ 8 → s.pc ≡ pl.at → Stands o pl (built_in_code b (register r) pl)
      → Leads o f r (pl.at + length (built_in_code b (register r) pl).code) s vars (Has (built_in_value f b) vars)
  built_in_leads (bi.Argument n) r pl s vars u long e stands =
      then_leads r r pl (pieces.number n (register r)) (one_instr (Ldga 0 (register r) (register r))) s vars vars (va.Int n) (Has (built_in_value f (bi.Argument n)) vars) (omega arith) stands
      (λ st1. number_leads o f r pl n s vars u long e st1)
      (λ pl1 st1 t d. put_leads o f r pl1.at (built_in_value f (bi.Argument n)) t vars vars _ u d.long d.at st1.code.0 (rw (at_is t.registers r u.high, d.value) (ap (λ w. st.puts t (register r) (va.Int w) vars) (argument_is f.args n))))
  built_in_leads bi.Timestamp r pl s vars u long e stands = put_leads o f r pl.at _ s vars vars _ u long e stands.code.0 refl
  built_in_leads bi.Cpu r pl s vars u long e stands = put_leads o f r pl.at _ s vars vars _ u long e stands.code.0 refl
  built_in_leads bi.Pid r pl s vars u long e stands = put_leads o f r pl.at _ s vars vars _ u long e stands.code.0 refl
  built_in_leads bi.Tid r pl s vars u long e stands = put_leads o f r pl.at _ s vars vars _ u long e stands.code.0 refl
  built_in_leads bi.Execname r pl s vars u long e stands = put_leads o f r pl.at _ s vars vars _ u long e stands.code.0 refl
  built_in_leads bi.Probeprov r pl s vars u long e stands = put_leads o f r pl.at _ s vars vars _ u long e stands.code.0 refl
  built_in_leads bi.Probemod r pl s vars u long e stands = put_leads o f r pl.at _ s vars vars _ u long e stands.code.0 refl
  built_in_leads bi.Probefunc r pl s vars u long e stands = put_leads o f r pl.at _ s vars vars _ u long e stands.code.0 refl
  built_in_leads bi.Probename r pl s vars u long e stands = put_leads o f r pl.at _ s vars vars _ u long e stands.code.0 refl

  -- ---- integers of variables

  integer_there : (t : DType) (v : Value) → IsSomeInteger t → IsOf t v → (v ≡ va.Int (word_of v)) × (word_of v < 2 ^ 64)
  integer_there (ty.Int t) (va.Int w) some is = (refl, word_small t w is)
  integer_there (ty.Int t) (va.Text bytes) some is = absurd is
  integer_there ty.Text v some is = let no = some.1 in cc

  held_is : (t : DType) (w : ℕ) → IsSomeInteger t → IsOf t (va.Int (word_as_type t w))
  held_is (ty.Int t) w some = narrow_is t w
  held_is ty.Text w some = let no = some.1 in cc

  holding_leads : (t : DType) (r : ℕ) (pl : Place) (word : ℕ) (s : Frame) (vars : Variables) → IsSomeInteger t → Usable r → r < 7 → length s.registers ≡ 8 → s.pc ≡ pl.at → slice_index_or s.registers r None ≡ Some (va.Int word) → word < 2 ^ 64
      → Stands o pl (holding t (register r) pl) → Leads o f r (pl.at + length (holding t (register r) pl).code) s vars (Has (va.Int (word_as_type t word)) vars)
  holding_leads (ty.Int t) r pl word s vars some u lt long e val small stands = narrow_leads o f t r pl word s vars u lt long e val small stands
  holding_leads ty.Text r pl word s vars some u lt long e val small stands = let no = some.1 in cc

  held_again : (t : DType) (word : ℕ) → IsSomeInteger t → word_as_type t (narrow UINT64 word) ≡ word_as_type t word
  held_again (ty.Int t) word some = unsigned_again t word
  held_again ty.Text word some = let no = some.1 in cc

  stepping_leads : (step : Step) (t : DType) (r : ℕ) (pl : Place) (word : ℕ) (s : Frame) (vars : Variables) → IsSomeInteger t → Usable r → r < 7 → length s.registers ≡ 8 → s.pc ≡ pl.at → slice_index_or s.registers r None ≡ Some (va.Int word)
      → Stands o pl (stepping step t (register r) pl) → Leads o f r (pl.at + length (stepping step t (register r) pl).code) s vars (Has (va.Int (word_as_type t (step_result step word))) vars)
  stepping_leads step t r pl word s vars some u lt long e val stands =
      let i = Alu (step_operator step) (register r) R7 (register r) in
      let mid = narrow UINT64 (step_result step word) in
      let z = word_as_type t (step_result step word) in
      then_leads r 7 pl (pieces.number 1 R7) (both (one_instr i) (holding t (register r))) s vars vars (va.Int 1) (Has (va.Int z) vars) (omega arith) stands
      (λ st1. number_leads o f 7 pl 1 s vars (record { low = omega arith; high = omega arith }) long e st1)
      (λ pl1 st1 t1 d.
      then_leads r r pl1 (one_instr i) (holding t (register r)) t1 vars vars (va.Int mid) (Has (va.Int z) vars) (omega arith) st1
      (λ st2. put_leads o f r pl1.at (va.Int mid) t1 vars vars i u d.long d.at st2.code.0 (rw (at_is t1.registers r u.high, d.kept r lt, val, d.value, step_is step word) refl))
      (λ pl2 st2 t2 d2. subst (λ n. Leads o f r (pl2.at + length (holding t (register r) pl2).code) t2 vars (Has (va.Int n) vars)) (held_again t (step_result step word) some)
      (holding_leads t r pl2 mid t2 vars some u lt d2.long d2.at d2.value (unsigned_small (step_result step word)) st2)))

  held_back : (step : Step) (t : DType) (old : ℕ) → IsSomeInteger t → IsOf t (va.Int old) → word_as_type t (step_result (opposite step) (word_as_type t (step_result step old))) ≡ old
  held_back step (ty.Int t) old some is = stepped_back step t old is
  held_back step ty.Text old some is = absurd is

  answering_leads : (answer : Answer) (step : Step) (t : DType) (r : ℕ) (pl : Place) (old : ℕ) (s : Frame) (vars : Variables) → IsSomeInteger t → IsOf t (va.Int old) → Usable r → r < 7 → length s.registers ≡ 8 → s.pc ≡ pl.at → slice_index_or s.registers r None ≡ Some (va.Int (word_as_type t (step_result step old)))
      → Stands o pl (answering answer step t (register r) pl) → Leads o f r (pl.at + length (answering answer step t (register r) pl).code) s vars (Has (va.Int (step_value answer old (word_as_type t (step_result step old)))) vars)
  answering_leads an.New step t r pl old s vars some is u lt long e val stands = none_leads o f r pl.at _ s vars long e val
  answering_leads an.Old step t r pl old s vars some is u lt long e val stands =
      subst (λ n. Leads o f r (pl.at + length (stepping (opposite step) t (register r) pl).code) s vars (Has (va.Int n) vars)) (held_back step t old some is)
      (stepping_leads (opposite step) t r pl (word_as_type t (step_result step old)) s vars some u lt long e val stands)

  -- a value after keys goes into the variable, and to where the keys began
  saved : (r q : ℕ) (pl : Place) (x : Variable) (keys : Typeds) (key : List KeyPart) (v : Value) (s : Frame) (vars : Variables) → q ≡ r + count keys → 0 < r → q ≤ 7 → Ready s → AreThere keys r s.registers key → s.pc ≡ pl.at → slice_index_or s.registers q None ≡ Some v → IsOf x.holds v
      → Stands o pl (both (saving x.space keys (var_of x) r (register q)) (lowering keys (register q) (register r)) pl)
      → Leads o f r (pl.at + length (both (saving x.space keys (var_of x) r (register q)) (lowering keys (register q) (register r)) pl).code) s vars (assignment_outcome x key v vars)
  saved r q pl x keys key v s vars same low high ready there e val is stands =
      let vars1 = set vars x key v in
      then_leads r q pl (saving x.space keys (var_of x) r (register q)) (lowering keys (register q) (register r)) s vars vars1 v (Has v vars1) (omega arith) stands
      (λ st1. saving_leads o f x.space keys x.slot x.holds r q pl s vars key v high ready (omega arith) (omega arith) there val is e st1)
      (λ pl1 st1 t1 d. lowering_leads o f keys q r pl1 v t1 vars1 same (record { low = low; high = omega arith }) high d.long d.at d.value st1)

  held_saved : (r q : ℕ) (pl : Place) (x : Variable) (keys : Typeds) (key : List KeyPart) (word : ℕ) (s : Frame) (vars : Variables) → q ≡ r + count keys → 0 < r → q < 7 → IsSomeInteger x.holds → Ready s → AreThere keys r s.registers key → s.pc ≡ pl.at → slice_index_or s.registers q None ≡ Some (va.Int word) → word < 2 ^ 64
      → Stands o pl (both (holding x.holds (register q)) (both (saving x.space keys (var_of x) r (register q)) (lowering keys (register q) (register r))) pl)
      → Leads o f r (pl.at + length (both (holding x.holds (register q)) (both (saving x.space keys (var_of x) r (register q)) (lowering keys (register q) (register r))) pl).code) s vars (update_outcome x key word vars)
  held_saved r q pl x keys key word s vars same low high some ready there e val small stands =
      let new = va.Int (word_as_type x.holds word) in
      then_leads r q pl (holding x.holds (register q)) (both (saving x.space keys (var_of x) r (register q)) (lowering keys (register q) (register r))) s vars vars new (assignment_outcome x key new vars) (omega arith) stands
      (λ st1. holding_leads x.holds q pl word s vars some (record { low = omega arith; high = omega arith }) high ready.long e val small st1)
      (λ pl1 st1 t1 d.
      saved r q pl1 x keys key new t1 vars same low (omega arith) (ready_on q _ s t1 new (omega arith) ready d) (there_kept keys r s.registers t1.registers key (λ k less. d.kept k (omega arith)) there) d.at d.value (held_is x.holds word some) st1)

  as_integer : (z : Outcome ℕ) (k : ℕ → Variables → Outcome Value) → with z k ≡ with (integer z) (λ v. k (word_of v))
  as_integer (Has w vars) k = refl
  as_integer (Faults vars) k = refl

  integer_word : (z : Outcome ℕ) (v : Value) (w : Variables) → integer z ≡ Has v w → v ≡ va.Int (word_of v)
  integer_word (Has n vars) v w e = let y : va.Int n ≡ v = cc in subst (λ v. v ≡ va.Int (word_of v)) y refl
  integer_word (Faults vars) v w e = cc

  quotient_small : (refused : Bool) (t : IntType) (n : ℕ) (vars : Variables) (v : Value) (w : Variables) → integer (word_or_fault (cond refused (Err (record {})) (Ok (narrow t n))) vars) ≡ Has v w → word_of v < 2 ^ 64
  quotient_small true t n vars v w e = cc
  quotient_small false t n vars v w e = let y : va.Int (narrow t n) ≡ v = cc in subst (λ v. word_of v < 2 ^ 64) y (word_small t (narrow t n) (narrow_is t n))

  given_small : (o' : Operation) (x y : ℕ) (vars : Variables) (v : Value) (w : Variables) → integer (word_or_fault (operation_of o' x y) vars) ≡ Has v w → word_of v < 2 ^ 64
  given_small (op.Arithmetic o' t) x y vars v w e = quotient_small (divides o' && (y == 0)) t (operate o' t.signed x y) vars v w e
  given_small (op.Shift o' t) x y vars v w e = let z : va.Int (shift_of o' t x y) ≡ v = cc in subst (λ v. word_of v < 2 ^ 64) z (word_small t (shift_of o' t x y) (narrow_is t _))

  -- ---- functions of texts

  measuring_leads : (r : ℕ) (pl : Place) (x : List ℕ) (s : Frame) (vars : Variables) → Usable r → Ready s → s.pc ≡ pl.at → slice_index_or s.registers r None ≡ Some (va.Text x)
      → Stands o pl (measuring (register r) pl) → Leads o f r (pl.at + length (measuring (register r) pl).code) s vars (Has (va.Int (length x)) vars)
  measuring_leads r pl x s vars u ready e val stands =
      let s1 = frames.with_tuple s (ke.Name x ∷ []) in
      let v = va.Int (length x) in
      let s2 = frames.with_value s1 (register r) v in
      let s3 = frames.with_tuple s2 [] in
      let n1 : s.pc + 1 ≡ pl.at + 1 = omega arith in
      let n2 : s.pc + 1 + 1 ≡ pl.at + 1 + 1 = omega arith in
      let n3 : s.pc + 1 + 1 + 1 ≡ pl.at + 3 = omega arith in
      let d = done_value s1 r v u ready.long in
      λ last c. goes s1 vars (step o f s vars pl.at (Pushtr (register r)) e stands.code.0 ∙ rw (at_is s.registers r u.high, val, ready.empty) refl)
      (goes s2 vars (step o f s1 vars (pl.at + 1) (Call fu.Strlen (register r)) n1 stands.code.1.0)
      (goes s3 vars (step o f s2 vars (pl.at + 1 + 1) Flushts n2 stands.code.1.1.0)
      (c s3 (record { at = n3; value = d.value; kept = d.kept; long = d.long; tuple = sym ready.empty }))))

  joining_leads : (r : ℕ) (pl : Place) (x y : List ℕ) (s : Frame) (vars : Variables) → Usable r → r + 1 ≤ 7 → Ready s → s.pc ≡ pl.at → slice_index_or s.registers r None ≡ Some (va.Text x) → slice_index_or s.registers (r + 1) None ≡ Some (va.Text y)
      → Stands o pl (joining (register r) (register (r + 1)) pl) → Leads o f r (pl.at + length (joining (register r) (register (r + 1)) pl).code) s vars (Has (va.Text (joined_text x y)) vars)
  joining_leads r pl x y s vars u le ready e vx vy stands =
      let s1 = frames.with_tuple s (ke.Name x ∷ []) in
      let s2 = frames.with_tuple s1 (ke.Name x ∷ ke.Name y ∷ []) in
      let v = va.Text (joined_text x y) in
      let s3 = frames.with_value s2 (register r) v in
      let s4 = frames.with_tuple s3 [] in
      let n1 : s.pc + 1 ≡ pl.at + 1 = omega arith in
      let n2 : s.pc + 1 + 1 ≡ pl.at + 1 + 1 = omega arith in
      let n3 : s.pc + 1 + 1 + 1 ≡ pl.at + 1 + 1 + 1 = omega arith in
      let n4 : s.pc + 1 + 1 + 1 + 1 ≡ pl.at + 4 = omega arith in
      let d = done_value s2 r v u ready.long in
      λ last c. goes s1 vars (step o f s vars pl.at (Pushtr (register r)) e stands.code.0 ∙ rw (at_is s.registers r u.high, vx, ready.empty) refl)
      (goes s2 vars (step o f s1 vars (pl.at + 1) (Pushtr (register (r + 1))) n1 stands.code.1.0 ∙ rw (at_is s.registers (r + 1) le, vy) refl)
      (goes s3 vars (step o f s2 vars (pl.at + 1 + 1) (Call fu.Strjoin (register r)) n2 stands.code.1.1.0)
      (goes s4 vars (step o f s3 vars (pl.at + 1 + 1 + 1) Flushts n3 stands.code.1.1.1.0)
      (c s4 (record { at = n4; value = d.value; kept = d.kept; long = d.long; tuple = sym ready.empty })))))

  -- a variable holds a value of its type
  of_its_type : (slots : Slots) (vars : Variables) (x : Variable) (key : List KeyPart) → AreTyped slots vars → IsKnown slots x → IsOf x.holds (value_of_variable vars x key)
  of_its_type slots vars x key good known = by x.space
    where
      by : (w : Space) → IsOf x.holds (value_in_space w vars (var_of x) key)
      by sp.Thread = good.1 x.slot x.holds key known
      by sp.Clause = good.0 x.slot x.holds known

  module _ (slots : Slots) (fit : HasTypedBuiltIns f) where
    mutual
      pub expr_leads : (z : Typed) → IsConsistent slots z → (r : ℕ) (pl : Place) (s : Frame) (vars : Variables) → AreTyped slots vars → 0 < r → r + need z ≤ 7 → Ready s → s.pc ≡ pl.at → Stands o pl (code_of z r pl)
          → Leads o f r (pl.at + length (code_of z r pl).code) s vars (eval f z vars)
      expr_leads (Constant t word) c r pl s vars good low high ready e stands = number_leads o f r pl word s vars (record { low = low; high = omega arith }) ready.long e stands
      expr_leads (Text bytes) c r pl s vars good low high ready e stands = text_leads o f r pl bytes s vars (record { low = low; high = omega arith }) ready.long e stands
      expr_leads (Fixed b) c r pl s vars good low high ready e stands = built_in_leads b r pl s vars (record { low = low; high = omega arith }) ready.long e stands
      expr_leads (Read x keys) c r pl s vars good low high ready e stands =
          let n = count_fits keys 0 (need_of_keys 0 keys) (omega arith) (omega arith) in
          keys_both o f slots keys r pl (keys_code keys r) (fetching x.space keys (var_of x) r (register r)) s vars (keys_of f keys vars) (λ key vars. Has (value_of_variable vars x key) vars) (keys_are slots f fit keys vars c.1 good) stands
          (λ st1. keys_lead keys c.1 r 0 r pl s vars (omega arith) good low (omega arith) ready e st1)
          (λ pl1 st1 key vars1 t1 well d.
          fetching_leads o f x.space keys x.slot x.holds r r pl1 t1 vars1 key (record { low = low; high = omega arith }) (ready_keyed keys r _ s t1 key low ready d) (omega arith) (omega arith) d.there (of_its_type slots vars1 x key well c.0) d.at st1)
      expr_leads (Unary o' t a) c r pl s vars good low high ready e stands =
          both_number o f slots r r pl (code_of a r) (unary_code o' t (register r)) s vars (type_of a) t (eval f a vars) (λ x. Has (va.Int (unary_of o' t x))) (omega arith) c.0 (eval_is slots f fit a vars c.1 good) stands
          (λ st1. expr_leads a c.1 r pl s vars good low high ready e st1)
          (λ pl1 st1 x vars1 t1 is well d. unary_leads o' t r pl1 x t1 vars1 (record { low = low; high = omega arith }) (omega (arith, need_pos a)) (ready_on r _ s t1 _ low ready d) d.at d.value st1)
      expr_leads (Operate (op.Arithmetic o' t) a b) c r pl s vars good low high ready e stands =
          let last = both (one_instr (Alu (operator_of o' t.signed) (register r) (register (r + 1)) (register r))) (narrowing t (register r)) in
          both_number o f slots r r pl (code_of a r) (both (code_of b (r + 1)) last) s vars (type_of a) t (eval f a vars) (λ x vars. with (number_outcome (eval f b vars)) (λ y vars. integer (word_or_fault (binary_of o' t x y) vars))) (omega arith) c.0.0 (eval_is slots f fit a vars c.1 good) stands
          (λ st1. expr_leads a c.1 r pl s vars good low (omega arith) ready e st1)
          (λ pl1 st1 x vars1 t1 is well d.
          both_number o f slots r (r + 1) pl1 (code_of b (r + 1)) last t1 vars1 (type_of b) t (eval f b vars1) (λ y vars. integer (word_or_fault (binary_of o' t x y) vars)) (omega arith) c.0.1 (eval_is slots f fit b vars1 c.2 well) st1
          (λ st2. expr_leads b c.2 (r + 1) pl1 t1 vars1 well (omega arith) (omega arith) (ready_on r _ s t1 _ low ready d) d.at st2)
          (λ pl2 st2 y vars2 t2 is' well' d2. operator_leads o' t r pl2 x y t2 vars2 (record { low = low; high = omega arith }) (omega (arith, need_pos b)) d2.long d2.at (d2.kept r (omega arith) ∙ d.value) d2.value st2))
      expr_leads (Compare o' t a b) c r pl s vars good low high ready e stands =
          let test = Cmp (register r) (register (r + 1)) in
          let last = bit_by test (condition_of o' t.signed) (register r) in
          both_number o f slots r r pl (code_of a r) (both (code_of b (r + 1)) last) s vars (type_of a) t (eval f a vars) (λ x vars. with (number_outcome (eval f b vars)) (λ y. Has (va.Int (truth (holds_of o' (order_of t x y)))))) (omega arith) c.0 (eval_is slots f fit a vars c.2 good) stands
          (λ st1. expr_leads a c.2 r pl s vars good low (omega arith) ready e st1)
          (λ pl1 st1 x vars1 t1 is well d.
          both_number o f slots r (r + 1) pl1 (code_of b (r + 1)) last t1 vars1 (type_of b) t (eval f b vars1) (λ y. Has (va.Int (truth (holds_of o' (order_of t x y))))) (omega arith) c.1 (eval_is slots f fit b vars1 c.3 well) st1
          (λ st2. expr_leads b c.3 (r + 1) pl1 t1 vars1 well (omega arith) (omega arith) (ready_on r _ s t1 _ low ready d) d.at st2)
          (λ pl2 st2 y vars2 t2 is' well' d2.
          truth_leads r _ t2 vars2 (holds_of o' (order_of t x y))
          (bit_leads o f r pl2 test (condition_of o' t.signed) t2 vars2 (comparison_of x y) (holds_of o' (order_of t x y)) (record { low = low; high = omega arith }) d2.long d2.at st2
          (rw (at_is t2.registers r (omega arith), d2.kept r (omega arith), d.value, at_is t2.registers (r + 1) (omega (arith, need_pos b)), d2.value) refl)
          (condition_is o' t.signed x y (word_small t x is) (word_small t y is')))))
      expr_leads (Operate (op.Shift o' t) a b) c r pl s vars good low high ready e stands =
          let last = operate_on (op.Shift o' t) (register r) (register (r + 1)) in
          both_number o f slots r r pl (code_of a r) (both (code_of b (r + 1)) last) s vars (type_of a) t (eval f a vars) (λ x vars. with (number_outcome (eval f b vars)) (λ y vars. integer (word_or_fault (operation_of (op.Shift o' t) x y) vars))) (omega arith) c.0.0 (eval_is slots f fit a vars c.1 good) stands
          (λ st1. expr_leads a c.1 r pl s vars good low (omega arith) ready e st1)
          (λ pl1 st1 x vars1 t1 is well d.
          both_number o f slots r (r + 1) pl1 (code_of b (r + 1)) last t1 vars1 (type_of b) c.0.1.0 (eval f b vars1) (λ y vars. integer (word_or_fault (operation_of (op.Shift o' t) x y) vars)) (omega arith) c.0.1.1 (eval_is slots f fit b vars1 c.2 well) st1
          (λ st2. expr_leads b c.2 (r + 1) pl1 t1 vars1 well (omega arith) (omega arith) (ready_on r _ s t1 _ low ready d) d.at st2)
          (λ pl2 st2 y vars2 t2 is' well' d2. operated_leads (op.Shift o' t) r pl2 x y t2 vars2 (record { low = low; high = omega arith }) (omega (arith, need_pos b)) d2.long d2.at (d2.kept r (omega arith) ∙ d.value) d2.value st2))
      expr_leads (CompareText o' a b) c r pl s vars good low high ready e stands =
          let test = Scmp (register r) (register (r + 1)) in
          let last = bit_by test (condition_of o' false) (register r) in
          both_text o f slots r r pl (code_of a r) (both (code_of b (r + 1)) last) s vars (type_of a) (eval f a vars) (λ x vars. with (text_outcome (eval f b vars)) (λ y. Has (va.Int (truth (holds_of o' (text_cmp x y)))))) (omega arith) c.0 (eval_is slots f fit a vars c.2 good) stands
          (λ st1. expr_leads a c.2 r pl s vars good low (omega arith) ready e st1)
          (λ pl1 st1 x vars1 t1 well d.
          both_text o f slots r (r + 1) pl1 (code_of b (r + 1)) last t1 vars1 (type_of b) (eval f b vars1) (λ y. Has (va.Int (truth (holds_of o' (text_cmp x y))))) (omega arith) c.1 (eval_is slots f fit b vars1 c.3 well) st1
          (λ st2. expr_leads b c.3 (r + 1) pl1 t1 vars1 well (omega arith) (omega arith) (ready_on r _ s t1 _ low ready d) d.at st2)
          (λ pl2 st2 y vars2 t2 well' d2.
          truth_leads r _ t2 vars2 (holds_of o' (text_cmp x y))
          (bit_leads o f r pl2 test (condition_of o' false) t2 vars2 (text_comparison_of x y) (holds_of o' (text_cmp x y)) (record { low = low; high = omega arith }) d2.long d2.at st2
          (rw (at_is t2.registers r (omega arith), d2.kept r (omega arith), d.value, at_is t2.registers (r + 1) (omega (arith, need_pos b)), d2.value) refl)
          (texts_condition o' x y))))
      expr_leads (Logic lo.Xor a b) c r pl s vars good low high ready e stands =
          let last = differing (register r) (register (r + 1)) in
          both_number o f slots r r pl (code_of a r) (both (code_of b (r + 1)) last) s vars (type_of a) c.0.0 (eval f a vars) (λ x vars. with (number_outcome (eval f b vars)) (λ y. Has (va.Int (at_zero x (bit y) (inverse y))))) (omega arith) c.0.1 (eval_is slots f fit a vars c.2 good) stands
          (λ st1. expr_leads a c.2 r pl s vars good low (omega arith) ready e st1)
          (λ pl1 st1 x vars1 t1 is well d.
          both_number o f slots r (r + 1) pl1 (code_of b (r + 1)) last t1 vars1 (type_of b) c.1.0 (eval f b vars1) (λ y. Has (va.Int (at_zero x (bit y) (inverse y)))) (omega arith) c.1.1 (eval_is slots f fit b vars1 c.3 well) st1
          (λ st2. expr_leads b c.3 (r + 1) pl1 t1 vars1 well (omega arith) (omega arith) (ready_on r _ s t1 _ low ready d) d.at st2)
          (λ pl2 st2 y vars2 t2 is' well' d2. differing_leads r pl2 x y t2 vars2 (record { low = low; high = omega arith }) (omega (arith, need_pos b)) d2.long d2.at (d2.kept r (omega arith) ∙ d.value) d2.value st2))
      expr_leads (Logic lo.And a b) c r pl s vars good low high ready e stands =
          let u : Usable r = record { low = low; high = omega (arith, need_pos a) } in
          let second = both (code_of b r) (bit_by (Tst (register r)) NotEqual (register r)) in
          both_number o f slots r r pl (code_of a r) (choice_code (Tst (register r)) Equal second (pieces.number 0 (register r))) s vars (type_of a) c.0.0 (eval f a vars) (λ x vars. at_zero x (Has (va.Int 0) vars) (with (number_outcome (eval f b vars)) (λ y. Has (va.Int (bit y))))) (omega arith) c.0.1 (eval_is slots f fit a vars c.2 good) stands
          (λ st1. expr_leads a c.2 r pl s vars good low (omega arith) ready e st1)
          (λ pl1 st1 x vars1 t1 is well d.
          zero_leads r _ t1 vars1 x (Has (va.Int 0) vars1) (with (number_outcome (eval f b vars1)) (λ y. Has (va.Int (bit y))))
          (choice_leads o f r pl1 (Tst (register r)) Equal second (pieces.number 0 (register r)) t1 vars1 (comparison_of x 0) (with (number_outcome (eval f b vars1)) (λ y. Has (va.Int (bit y)))) (Has (va.Int 0) vars1) (is_zero x) d.at st1 (tested r x t1 vars1 u.high d.value) (zero_holds x)
          (λ pl2 st2 t2 te tr tt'.
          let ready2 = same_ready t1 t2 tr tt' (ready_on r _ s t1 _ low ready d) in
          both_number o f slots r r pl2 (code_of b r) (bit_by (Tst (register r)) NotEqual (register r)) t2 vars1 (type_of b) c.1.0 (eval f b vars1) (λ y. Has (va.Int (bit y))) (omega arith) c.1.1 (eval_is slots f fit b vars1 c.3 well) st2
          (λ st3. expr_leads b c.3 r pl2 t2 vars1 well low (omega arith) ready2 te st3)
          (λ pl3 st3 y vars3 t3 is' well' d3. bit_of_leads r pl3 y t3 vars3 u d3.long d3.at d3.value st3))
          (λ pl2 st2 t2 te tr tt'. number_leads o f r pl2 0 t2 vars1 u (ap length tr ∙ d.long) te st2)))
      expr_leads (Logic lo.Or a b) c r pl s vars good low high ready e stands =
          let u : Usable r = record { low = low; high = omega (arith, need_pos a) } in
          let second = both (code_of b r) (bit_by (Tst (register r)) NotEqual (register r)) in
          both_number o f slots r r pl (code_of a r) (choice_code (Tst (register r)) Equal (pieces.number 1 (register r)) second) s vars (type_of a) c.0.0 (eval f a vars) (λ x vars. at_zero x (with (number_outcome (eval f b vars)) (λ y. Has (va.Int (bit y)))) (Has (va.Int 1) vars)) (omega arith) c.0.1 (eval_is slots f fit a vars c.2 good) stands
          (λ st1. expr_leads a c.2 r pl s vars good low (omega arith) ready e st1)
          (λ pl1 st1 x vars1 t1 is well d.
          zero_leads r _ t1 vars1 x (with (number_outcome (eval f b vars1)) (λ y. Has (va.Int (bit y)))) (Has (va.Int 1) vars1)
          (choice_leads o f r pl1 (Tst (register r)) Equal (pieces.number 1 (register r)) second t1 vars1 (comparison_of x 0) (Has (va.Int 1) vars1) (with (number_outcome (eval f b vars1)) (λ y. Has (va.Int (bit y)))) (is_zero x) d.at st1 (tested r x t1 vars1 u.high d.value) (zero_holds x)
          (λ pl2 st2 t2 te tr tt'. number_leads o f r pl2 1 t2 vars1 u (ap length tr ∙ d.long) te st2)
          (λ pl2 st2 t2 te tr tt'.
          let ready2 = same_ready t1 t2 tr tt' (ready_on r _ s t1 _ low ready d) in
          both_number o f slots r r pl2 (code_of b r) (bit_by (Tst (register r)) NotEqual (register r)) t2 vars1 (type_of b) c.1.0 (eval f b vars1) (λ y. Has (va.Int (bit y))) (omega arith) c.1.1 (eval_is slots f fit b vars1 c.3 well) st2
          (λ st3. expr_leads b c.3 r pl2 t2 vars1 well low (omega arith) ready2 te st3)
          (λ pl3 st3 y vars3 t3 is' well' d3. bit_of_leads r pl3 y t3 vars3 u d3.long d3.at d3.value st3))))
      expr_leads (Choice t z a b) c r pl s vars good low high ready e stands =
          both_number o f slots r r pl (code_of z r) (choice_code (Tst (register r)) Equal (code_of a r) (code_of b r)) s vars (type_of z) c.0.0 (eval f z vars) (λ x vars. at_zero x (eval f b vars) (eval f a vars)) (omega arith) c.0.1 (eval_is slots f fit z vars c.3 good) stands
          (λ st1. expr_leads z c.3 r pl s vars good low (omega arith) ready e st1)
          (λ pl1 st1 x vars1 t1 is well d.
          let ready1 = ready_on r _ s t1 _ low ready d in
          zero_leads r _ t1 vars1 x (eval f b vars1) (eval f a vars1)
          (choice_leads o f r pl1 (Tst (register r)) Equal (code_of a r) (code_of b r) t1 vars1 (comparison_of x 0) (eval f a vars1) (eval f b vars1) (is_zero x) d.at st1 (tested r x t1 vars1 (omega (arith, need_pos z)) d.value) (zero_holds x)
          (λ pl2 st2 t2 te tr tt'. expr_leads a c.4 r pl2 t2 vars1 well low (omega arith) (same_ready t1 t2 tr tt' ready1) te st2)
          (λ pl2 st2 t2 te tr tt'. expr_leads b c.5 r pl2 t2 vars1 well low (omega arith) (same_ready t1 t2 tr tt' ready1) te st2)))
      expr_leads (Convert t u a) c r pl s vars good low high ready e stands =
          both_number o f slots r r pl (code_of a r) (narrowing u (register r)) s vars (type_of a) t (eval f a vars) (λ x. Has (va.Int (narrow u x))) (omega arith) c.0 (eval_is slots f fit a vars c.1 good) stands
          (λ st1. expr_leads a c.1 r pl s vars good low high ready e st1)
          (λ pl1 st1 x vars1 t1 is well d. narrow_leads o f u r pl1 x t1 vars1 (record { low = low; high = omega arith }) (omega (arith, need_pos a)) d.long d.at d.value (word_small t x is) st1)
      expr_leads (Assign x keys a) c r pl s vars good low high ready e stands =
          let n = count_fits keys 0 (need_of_keys 0 keys) (omega arith) (omega arith) in
          let m = need_pos a in
          let q = r + count keys in
          let var = var_of x in
          let save = saving x.space keys var r (register q) in
          let back = lowering keys (register q) (register r) in
          keys_both o f slots keys r pl (keys_code keys r) (both (code_of a q) (both save back)) s vars (keys_of f keys vars) (λ key vars. with (eval f a vars) (assignment_outcome x key)) (keys_are slots f fit keys vars c.1 good) stands
          (λ st1. keys_lead keys c.1 r 0 r pl s vars (omega arith) good low (omega arith) ready e st1)
          (λ pl1 st1 key vars1 t1 well d.
          let ready1 = ready_keyed keys r _ s t1 key low ready d in
          both_leads o f r q pl1 (code_of a q) (both save back) t1 vars1 (eval f a vars1) (assignment_outcome x key) (omega arith) st1
          (λ st2. expr_leads a c.3 q pl1 t1 vars1 well (omega arith) (omega arith) ready1 d.at st2)
          (λ pl2 st2 v vars2 t2 is d2.
          let typed : IsOf (type_of a) v × AreTyped slots vars2 = subst (EndsTyped slots (IsOf (type_of a))) is (eval_is slots f fit a vars1 c.3 well) in
          let fits : IsOf x.holds v = subst (λ u. IsOf u v) c.2 typed.0 in
          let there = there_kept keys r t1.registers t2.registers key (λ k less. d2.kept k less) d.there in
          saved r q pl2 x keys key v t2 vars2 refl low (omega arith) (ready_on q _ t1 t2 v (omega arith) ready1 d2) there d2.at d2.value fits st2))
      expr_leads (Update o' x keys a) c r pl s vars good low high ready e stands =
          let n = count_fits keys 0 (need_of_keys 0 keys) (omega arith) (omega arith) in
          let m = need_pos a in
          let q = r + count keys in
          let var = var_of x in
          let save = saving x.space keys var r (register q) in
          let back = lowering keys (register q) (register r) in
          let hold = both (holding x.holds (register q)) (both save back) in
          let act = both (operate_on o' (register q) (register (q + 1))) hold in
          let t = works_in o' in
          let old = λ (key : List KeyPart) (vars : Variables). narrow t (word_of (value_of_variable vars x key)) in
          let u : Usable q = record { low = omega arith; high = omega arith } in
          keys_both o f slots keys r pl (keys_code keys r) (both (fetching x.space keys var r (register q)) (both (narrowing t (register q)) (both (code_of a (q + 1)) act))) s vars (keys_of f keys vars)
          (λ key vars. with (number_outcome (eval f a vars)) (λ y after. with (word_or_fault (operation_of o' (old key vars) y) after) (update_outcome x key))) (keys_are slots f fit keys vars c.1 good) stands
          (λ st1. keys_lead keys c.1 r 0 r pl s vars (omega arith) good low (omega arith) ready e st1)
          (λ pl1 st1 key vars1 t1 well d.
          let ready1 = ready_keyed keys r _ s t1 key low ready d in
          let value = value_of_variable vars1 x key in
          let is = of_its_type slots vars1 x key well c.0 in
          let z = with (number_outcome (eval f a vars1)) (λ y after. with (word_or_fault (operation_of o' (old key vars1) y) after) (update_outcome x key)) in
          then_leads r q pl1 (fetching x.space keys var r (register q)) (both (narrowing t (register q)) (both (code_of a (q + 1)) act)) t1 vars1 vars1 value z (omega arith) st1
          (λ st2. fetching_leads o f x.space keys x.slot x.holds r q pl1 t1 vars1 key u ready1 (omega arith) (omega arith) d.there is d.at st2)
          (λ pl2 st2 t2 d2.
          let there2 = there_kept keys r t1.registers t2.registers key (λ k less. d2.kept k less) d.there in
          let ready2 = ready_on q _ t1 t2 value (omega arith) ready1 d2 in
          let w = integer_there x.holds value c.2 is in
          then_leads r q pl2 (narrowing t (register q)) (both (code_of a (q + 1)) act) t2 vars1 vars1 (va.Int (old key vars1)) z (omega arith) st2
          (λ st3. narrow_leads o f t q pl2 (word_of value) t2 vars1 u (omega arith) d2.long d2.at (d2.value ∙ ap Some w.0) w.1 st3)
          (λ pl3 st3 t3 d3.
          let there3 = there_kept keys r t2.registers t3.registers key (λ k less. d3.kept k less) there2 in
          let ready3 = ready_on q _ t2 t3 (va.Int (old key vars1)) (omega arith) ready2 d3 in
          let takes = count_type o' (type_of a) c.3 in
          both_number o f slots r (q + 1) pl3 (code_of a (q + 1)) act t3 vars1 (type_of a) takes.0 (eval f a vars1) (λ y after. with (word_or_fault (operation_of o' (old key vars1) y) after) (update_outcome x key)) (omega arith) takes.1 (eval_is slots f fit a vars1 c.4 well) st3
          (λ st4. expr_leads a c.4 (q + 1) pl3 t3 vars1 well (omega arith) (omega arith) ready3 d3.at st4)
          (λ pl4 st4 y vars4 t4 is4 well4 d4.
          let there4 = there_kept keys r t3.registers t4.registers key (λ k less. d4.kept k (omega arith)) there3 in
          let ready4 = ready_on (q + 1) _ t3 t4 (va.Int y) (omega arith) ready3 d4 in
          subst (Leads o f r (pl4.at + length (both (operate_on o' (register q) (register (q + 1))) hold pl4).code) t4 vars4) (sym (as_integer (word_or_fault (operation_of o' (old key vars1) y) vars4) (update_outcome x key)))
          (both_leads o f r q pl4 (operate_on o' (register q) (register (q + 1))) hold t4 vars4 (integer (word_or_fault (operation_of o' (old key vars1) y) vars4)) (λ v. update_outcome x key (word_of v)) (omega arith) st4
          (λ st5. operated_leads o' q pl4 (old key vars1) y t4 vars4 u (omega arith) d4.long d4.at (d4.kept q (omega arith) ∙ d3.value) d4.value st5)
          (λ pl5 st5 v vars5 t5 is5 d5.
          let there5 = there_kept keys r t4.registers t5.registers key (λ k less. d5.kept k less) there4 in
          let ready5 = ready_on q _ t4 t5 v (omega arith) ready4 d5 in
          let word = integer_word (word_or_fault (operation_of o' (old key vars1) y) vars4) v vars5 is5 in
          held_saved r q pl5 x keys key (word_of v) t5 vars5 refl low (omega arith) c.2 ready5 there5 d5.at (d5.value ∙ ap Some word) (given_small o' (old key vars1) y vars4 v vars5 is5) st5))))))
      expr_leads (Count step answer x keys) c r pl s vars good low high ready e stands =
          let n = count_fits keys 0 (need_of_keys 0 keys) (omega arith) (omega arith) in
          let q = r + count keys in
          let var = var_of x in
          let save = saving x.space keys var r (register q) in
          let rest = both (answering answer step x.holds (register q)) (lowering keys (register q) (register r)) in
          let u : Usable q = record { low = omega arith; high = omega arith } in
          keys_both o f slots keys r pl (keys_code keys r) (both (fetching x.space keys var r (register q)) (both (stepping step x.holds (register q)) (both save rest))) s vars (keys_of f keys vars)
          (λ key vars. step_outcome step answer x key (word_of (value_of_variable vars x key)) vars) (keys_are slots f fit keys vars c.1 good) stands
          (λ st1. keys_lead keys c.1 r 0 r pl s vars (omega arith) good low (omega arith) ready e st1)
          (λ pl1 st1 key vars1 t1 well d.
          let ready1 = ready_keyed keys r _ s t1 key low ready d in
          let value = value_of_variable vars1 x key in
          let old = word_of value in
          let new = word_as_type x.holds (step_result step old) in
          let is = of_its_type slots vars1 x key well c.0 in
          let w = integer_there x.holds value c.2 is in
          let vars2 = set vars1 x key (va.Int new) in
          then_leads r q pl1 (fetching x.space keys var r (register q)) (both (stepping step x.holds (register q)) (both save rest)) t1 vars1 vars1 value (Has (va.Int (step_value answer old new)) vars2) (omega arith) st1
          (λ st2. fetching_leads o f x.space keys x.slot x.holds r q pl1 t1 vars1 key u ready1 (omega arith) (omega arith) d.there is d.at st2)
          (λ pl2 st2 t2 d2.
          let there2 = there_kept keys r t1.registers t2.registers key (λ k less. d2.kept k less) d.there in
          let ready2 = ready_on q _ t1 t2 value (omega arith) ready1 d2 in
          then_leads r q pl2 (stepping step x.holds (register q)) (both save rest) t2 vars1 vars1 (va.Int new) (Has (va.Int (step_value answer old new)) vars2) (omega arith) st2
          (λ st3. stepping_leads step x.holds q pl2 old t2 vars1 c.2 u (omega arith) d2.long d2.at (d2.value ∙ ap Some w.0) st3)
          (λ pl3 st3 t3 d3.
          let there3 = there_kept keys r t2.registers t3.registers key (λ k less. d3.kept k less) there2 in
          let ready3 = ready_on q _ t2 t3 (va.Int new) (omega arith) ready2 d3 in
          then_leads r q pl3 save rest t3 vars1 vars2 (va.Int new) (Has (va.Int (step_value answer old new)) vars2) (omega arith) st3
          (λ st4. saving_leads o f x.space keys x.slot x.holds r q pl3 t3 vars1 key (va.Int new) u.high ready3 (omega arith) (omega arith) there3 d3.value (held_is x.holds (step_result step old) c.2) d3.at st4)
          (λ pl4 st4 t4 d4.
          then_leads r q pl4 (answering answer step x.holds (register q)) (lowering keys (register q) (register r)) t4 vars2 vars2 (va.Int (step_value answer old new)) (Has (va.Int (step_value answer old new)) vars2) (omega arith) st4
          (λ st5. answering_leads answer step x.holds q pl4 old t4 vars2 c.2 (subst (IsOf x.holds) w.0 is) u (omega arith) d4.long d4.at d4.value st5)
          (λ pl5 st5 t5 d5. lowering_leads o f keys q r pl5 (va.Int (step_value answer old new)) t5 vars2 refl (record { low = low; high = omega arith }) u.high d5.long d5.at d5.value st5)))))
      expr_leads (Strlen a) c r pl s vars good low high ready e stands =
          let m = need_pos a in
          both_text o f slots r r pl (code_of a r) (measuring (register r)) s vars (type_of a) (eval f a vars) (λ x. Has (va.Int (length x))) (omega arith) c.0 (eval_is slots f fit a vars c.1 good) stands
          (λ st1. expr_leads a c.1 r pl s vars good low high ready e st1)
          (λ pl1 st1 x vars1 t1 well d. measuring_leads r pl1 x t1 vars1 (record { low = low; high = omega arith }) (ready_on r _ s t1 _ low ready d) d.at d.value st1)
      expr_leads (Strjoin a b) c r pl s vars good low high ready e stands =
          let m = need_pos b in
          let last = joining (register r) (register (r + 1)) in
          both_text o f slots r r pl (code_of a r) (both (code_of b (r + 1)) last) s vars (type_of a) (eval f a vars) (λ x vars. with (text_outcome (eval f b vars)) (λ y. Has (va.Text (joined_text x y)))) (omega arith) c.0 (eval_is slots f fit a vars c.2 good) stands
          (λ st1. expr_leads a c.2 r pl s vars good low (omega arith) ready e st1)
          (λ pl1 st1 x vars1 t1 well d.
          let ready1 = ready_on r _ s t1 _ low ready d in
          both_text o f slots r (r + 1) pl1 (code_of b (r + 1)) last t1 vars1 (type_of b) (eval f b vars1) (λ y. Has (va.Text (joined_text x y))) (omega arith) c.1 (eval_is slots f fit b vars1 c.3 well) st1
          (λ st2. expr_leads b c.3 (r + 1) pl1 t1 vars1 well (omega arith) (omega arith) ready1 d.at st2)
          (λ pl2 st2 y vars2 t2 well' d2. joining_leads r pl2 x y t2 vars2 (record { low = low; high = omega arith }) (omega arith) (ready_on (r + 1) _ t1 t2 _ (omega arith) ready1 d2) d2.at (d2.kept r (omega arith) ∙ d.value) d2.value st2))

      pub keys_lead : (keys : Typeds) → AreConsistent slots keys → (base n r : ℕ) (pl : Place) (s : Frame) (vars : Variables) → r ≡ base + n → AreTyped slots vars → 0 < r → base + need_of_keys n keys ≤ 7 → Ready s → s.pc ≡ pl.at → Stands o pl (keys_code keys r pl)
          → KeysLead o f keys r (pl.at + length (keys_code keys r pl).code) s vars (keys_of f keys vars)
      keys_lead end c base n r pl s vars same good low high ready e stands =
          λ last k. k s (record { at = e ∙ omega arith; there = refl; kept = λ k less. refl; long = ready.long; tuple = refl })
      keys_lead (more a rest) c base n r pl s vars same good low high ready e stands =
          let p = code_of a r pl in
          let pl1 = past pl p in
          let q = keys_code rest (r + 1) pl1 in
          let size : pl1.at + length q.code ≡ pl.at + length (p.code ++ q.code) = omega (arith, length-append p.code q.code) in
          subst (λ n. KeysLead o f (more a rest) r n s vars (keys_of f (more a rest) vars)) size
          (keys_first o f slots a rest r pl1.at (pl1.at + length q.code) s vars (eval f a vars) (keys_of f rest)
          (expr_leads a c.0 r pl s vars good low (omega arith) ready e (stands_front o pl p q stands)) (eval_is slots f fit a vars c.0 good)
          (λ x w t well d. keys_lead rest c.1 base (n + 1) (r + 1) pl1 t w (omega arith) well (omega arith) (omega arith) (ready_on r _ s t x low ready d) d.at (stands_back o pl p q stands)))
