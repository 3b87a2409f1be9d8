-- A word brought to its type, by the machine.
use Rattle.std.specs.Prelude.{◌≡◌, ◌≢◌, ◌≤◌, ◌<◌, ℕ, ◌+◌, ◌-◌, ◌^◌, ◌==◌, Bool, true, false, length}
use Rattle.std.specs.Prelude.{Some, None, Ok, slice_get, slice_index_or}
use Rattle.std.proofs.Common.{refl, sym, ap, ◌∙◌, subst, arith, cond}
use Rattle.std.proofs.Math.ListN.{length-set}
use Rattle.std.proofs.lemmas.Bool.{eqb-true, eqb-false}
use Rattle.std.proofs.lemmas.List.{get_or-set_same, get_or-set_other}
use Rattle.d_values.specs.Types.{UINT64}
use Rattle.d_values.specs.Words.{narrow, shift_of}
use Rattle.d_values.specs.declared.int_type.IntType.{IntType}
use Rattle.d_values.specs.declared.operators.ShiftOperator.TheVariants as sh
use Rattle.d_values.specs.declared.value.Value.TheVariants.{Int}
use Rattle.firings.specs.declared.firing.Firing.{Firing}
use Rattle.d_types.specs.Expressions.{Has}
use Rattle.d_types.specs.Storage.{Variables}
use Rattle.dif_validate.specs.declared.instruction.Instr.TheVariants.{Alu, Setx}
use Rattle.dif_validate.specs.declared.instruction.Operator.{Operator}
use Rattle.dif_validate.specs.declared.instruction.Operator.TheVariants.{Sll}
use Rattle.dif_validate.specs.declared.register.Reg.TheVariants.{R7}
use Rattle.dif_validate.specs.Objects.{Object}
use Rattle.dif_machine.specs.Frames.{Frame}
use Rattle.dif_machine.specs.Frames.{with_value}
use Rattle.dif_machine.specs.Operators.{result_of}
use Rattle.dif_machine.specs.Runs.{goes}
use Rattle.dif_machine.specs.Semantics as st
use Rattle.dif_codegen.specs.Steps.Code.{register, shift_right, shifts, narrowing}
use Rattle.dif_codegen.specs.Steps.Pieces.{Place, Maker, nothing}
use Rattle.dif_codegen.proofs.Leading.{Usable, Leads, step, done_value, none_leads}
use Rattle.dif_codegen.proofs.Standing.{Stands, at_is, put_is}
use Rattle.dif_codegen.proofs.Words.{back, back_is, small_64}

right_is : (signed : Bool) (word count : ℕ) → result_of (shift_right signed) (shift_of sh.Left UINT64 word count) count ≡ Ok (back signed count word)
right_is true word count = refl
right_is false word count = refl

module _ (o : Object) (f : Firing) where
  -- an operator on two registers that have numbers
  alu_step : (r pc x y z : ℕ) (op : Operator) (s : Frame) (vars : Variables) → r ≤ 7 → s.pc ≡ pc → slice_get o.code pc ≡ Some (Alu op (register r) R7 (register r))
      → slice_index_or s.registers r None ≡ Some (Int x) → slice_index_or s.registers 7 None ≡ Some (Int y) → result_of op x y ≡ Ok z → st.step_of o f s vars ≡ st.Goes (with_value s (register r) (Int z)) vars
  alu_step r pc x y z op s vars le e has a b is = step o f s vars pc _ e has ∙ rw (at_is s.registers r le, a, b, is) refl

  shifts_leads : (count : ℕ) (signed : Bool) (r : ℕ) (pl : Place) (word : ℕ) (s : Frame) (vars : Variables) → Usable r → r < 7 → length s.registers ≡ 8 → s.pc ≡ pl.at → slice_index_or s.registers r None ≡ Some (Int word)
      → Stands o pl (shifts count signed (register r) pl) → Leads o f r (pl.at + length (shifts count signed (register r) pl).code) s vars (Has (Int (back signed count word)) vars)
  shifts_leads count signed r pl word s vars u lt long e val stands =
      let left = shift_of sh.Left UINT64 word count in
      let s1 = with_value s R7 (Int count) in
      let s2 = with_value s1 (register r) (Int left) in
      let s3 = with_value s2 (register r) (Int (back signed count word)) in
      let n1 : s.pc + 1 ≡ pl.at + 1 = omega arith in
      let n2 : s.pc + 1 + 1 ≡ pl.at + 1 + 1 = omega arith in
      let n3 : s.pc + 1 + 1 + 1 ≡ pl.at + 3 = omega arith in
      let in7 : 7 < length s.registers = omega arith in
      let r7 : r ≢ 7 = omega arith in
      let r7' : 7 ≢ r = omega arith in
      let l1 : length s1.registers ≡ 8 = length-set s.registers 7 (Some (Int count)) ∙ long in
      let v1 : slice_index_or s1.registers r None ≡ Some (Int word) = get_or-set_other s.registers 7 r (Some (Int count)) None r7 ∙ val in
      let c1 : slice_index_or s1.registers 7 None ≡ Some (Int count) = get_or-set_same s.registers 7 (Some (Int count)) None in7 in
      let d2 = done_value s1 r (Int left) u l1 in
      let c2 : slice_index_or s2.registers 7 None ≡ Some (Int count) = ap (λ xs. slice_index_or xs 7 None) (put_is s1.registers r (Some (Int left)) u.low u.high) ∙ get_or-set_other s1.registers r 7 (Some (Int left)) None r7' ∙ c1 in
      let d3 = done_value s2 r (Int (back signed count word)) u d2.long in
      let t1 : st.step_of o f s vars ≡ st.Goes s1 vars = step o f s vars pl.at (Setx pl.numbers R7) e stands.code.0 ∙ ap (λ x. st.on x (λ n. st.puts s R7 (Int n) vars)) stands.numbers.0 in
      let t2 = alu_step r (pl.at + 1) word count left Sll s1 vars u.high n1 stands.code.1.0 v1 c1 refl in
      let t3 = alu_step r (pl.at + 1 + 1) left count (back signed count word) (shift_right signed) s2 vars u.high n2 stands.code.1.1.0 d2.value c2 (right_is signed word count) in
      λ end c. goes s1 vars t1 (goes s2 vars t2 (goes s3 vars t3 (c s3 (record {
        at = n3;
        value = d3.value;
        kept = λ k less. let ne : k ≢ 7 = omega arith in d3.kept k less ∙ d2.kept k less ∙ get_or-set_other s.registers 7 k (Some (Int count)) None ne;
        long = d3.long;
        tuple = refl;
      }))))

  pub narrow_leads : (t : IntType) (r : ℕ) (pl : Place) (word : ℕ) (s : Frame) (vars : Variables) → Usable r → r < 7 → length s.registers ≡ 8 → s.pc ≡ pl.at → slice_index_or s.registers r None ≡ Some (Int word) → word < 2 ^ 64
      → Stands o pl (narrowing t (register r) pl) → Leads o f r (pl.at + length (narrowing t (register r) pl).code) s vars (Has (Int (narrow t word)) vars)
  narrow_leads t r pl word s vars u lt long e val small = by (t.width == 64) refl
    where
      made : Bool → Maker
      made whole = cond whole nothing (shifts (64 - t.width) t.signed (register r))

      by : (whole : Bool) → (t.width == 64) ≡ whole → Stands o pl (made whole pl) → Leads o f r (pl.at + length (made whole pl).code) s vars (Has (Int (narrow t word)) vars)
      by true is stands = subst (λ w. Leads o f r (pl.at + 0) s vars (Has (Int w) vars)) (sym (small_64 t word (eqb-true t.width 64 is) small)) (none_leads o f r pl.at (Int word) s vars long e val)
      by false is stands = subst (λ w. Leads o f r (pl.at + 3) s vars (Has (Int w) vars)) (back_is word t (eqb-false t.width 64 is)) (shifts_leads (64 - t.width) t.signed r pl word s vars u lt long e val stands)
