-- What the machine's instructions make is what the language's operators make.
use Rattle.std.specs.Prelude.{◌≡◌, ◌<◌, ℕ, zero, suc, ◌+◌, ◌-◌, ◌%◌, ◌^◌, bit_and, ◌==◌, ◌&&◌, Bool}
use Rattle.std.specs.Prelude.{true, false, List, [], ◌∷◌, Some, Ok, Err, ℤ, pos, slice_get}
use Rattle.std.specs.Prelude.{get_or, nat_lt, nat_le}
use Rattle.std.specs.Cmp.{nat_cmp_is}
use Rattle.std.specs.Int.{cast_signed, cast_unsigned, w64}
use Rattle.std.specs.Ordering.{nat_cmp, int_cmp, int_eq, is_eq}
use Rattle.std.specs.declared.cmp.Ordering.{Ordering}
use Rattle.std.specs.declared.cmp.Ordering.TheVariants as ord
use Rattle.std.proofs.Common.{refl, sym, ap, ◌∙◌, subst, ⊎_elim, arith, cond}
use Rattle.std.proofs.Math.Nat.{mod-eq_of_lt}
use Rattle.std.proofs.lemmas.Bool.{cases_eq, ne_eqb, false_from_ne_true}
use Rattle.std.proofs.lemmas.Bool.Decides.{Decides-int_eq}
use Rattle.std.proofs.lemmas.Int.{of_z-to_z}
use Rattle.std.proofs.lemmas.Nat.{and_mask, mod_below, pow_pos}
use Rattle.d_parser.specs.declared.operators.Step.{Step}
use Rattle.d_parser.specs.declared.operators.Step.TheVariants as sp1
use Rattle.d_values.specs.Operators.{holds_of}
use Rattle.d_values.specs.Types.{INT64, UINT64}
use Rattle.d_values.specs.Texts.{text_cmp}
use Rattle.d_values.specs.Widths.{is_width}
use Rattle.d_values.specs.Words.{narrow, operate, divides, shift_of, shift_result}
use Rattle.d_values.specs.declared.operators.ShiftOperator.{ShiftOperator}
use Rattle.d_values.specs.declared.operators.ShiftOperator.TheVariants as sh
use Rattle.d_values.specs.declared.int_type.IntType.{IntType}
use Rattle.d_values.specs.declared.int_type.DType.{DType}
use Rattle.d_values.specs.declared.int_type.DType.TheVariants as ty
use Rattle.d_values.specs.declared.operators.ArithmeticOperator.{ArithmeticOperator}
use Rattle.d_values.specs.declared.operators.ArithmeticOperator.TheVariants as ar
use Rattle.d_values.specs.declared.operators.ComparisonOperator.{ComparisonOperator}
use Rattle.d_values.specs.declared.operators.ComparisonOperator.TheVariants as co
use Rattle.d_values.specs.declared.value.Value.{Value}
use Rattle.d_values.specs.declared.value.Value.TheVariants.{Int, Text}
use Rattle.firings.specs.declared.firing.Firing.{Firing}
use Rattle.d_types.specs.declared.typed.Space.{Space}
use Rattle.d_types.specs.declared.typed.Space.TheVariants as sp
use Rattle.d_types.specs.Held.{IsOf, IsWord}
use Rattle.d_types.specs.Expressions.{step_result}
use Rattle.d_types.proofs.ValueTypes.{narrow_leaves}
use Rattle.d_types.specs.Storage as storage
use Rattle.d_types.specs.Storage.{Variables, value_in_space, set_in}
use Rattle.d_types.specs.Variables.{kind_of_type}
use Rattle.dif_validate.specs.declared.instruction.Condition.TheVariants.{Equal, NotEqual}
use Rattle.dif_validate.specs.declared.register.Reg.{Reg}
use Rattle.dif_validate.specs.Objects.{Object}
use Rattle.dif_validate.specs.Registers.{at}
use Rattle.dif_machine.proofs.Numbers.{bits_small}
use Rattle.dif_machine.specs.Frames.{Frame}
use Rattle.dif_machine.specs.Frames.{at_index}
use Rattle.dif_machine.specs.Operators.{result_of, comparison_of, text_comparison_of, holds}
use Rattle.dif_machine.specs.Sources as machine
use Rattle.dif_machine.specs.Semantics as st
use Rattle.dif_codegen.specs.Steps.Code.{operator_of, condition_of, shift_operator, shift_right}
use Rattle.dif_codegen.specs.Steps.Code.{step_operator, opposite, load_from, store_to}
use Rattle.dif_codegen.proofs.Words.{signed_again, unsigned_again, signed_small, unsigned_small}
use Rattle.dif_codegen.proofs.Words.{widths, bits}

-- ---- operators

-- the machine's result: none where the language has none, else a word that is the same once it is brought to the type
pub record Works (o : ArithmeticOperator) (t : IntType) (x y : ℕ) : Type 0 where
  pub word : ℕ
  pub is : result_of (operator_of o t.signed) x y ≡ cond (divides o && (y == 0)) (Err (record {})) (Ok word)
  pub same : narrow t word ≡ narrow t (operate o t.signed x y)
  pub small : word < 2 ^ 64

unsigned : (o : ArithmeticOperator) (t : IntType) (x y z : ℕ) → result_of (operator_of o t.signed) x y ≡ cond (divides o && (y == 0)) (Err (record {})) (Ok (narrow UINT64 z)) → z ≡ operate o t.signed x y → Works o t x y
unsigned o t x y z is e = record { word = narrow UINT64 z; is = is; same = unsigned_again t z ∙ ap (narrow t) e; small = unsigned_small z }

signed : (o : ArithmeticOperator) (t : IntType) (x y z : ℕ) → result_of (operator_of o t.signed) x y ≡ cond (divides o && (y == 0)) (Err (record {})) (Ok (narrow INT64 z)) → z ≡ operate o t.signed x y → Works o t x y
signed o t x y z is e = record { word = narrow INT64 z; is = is; same = signed_again t z ∙ ap (narrow t) e; small = signed_small z }

pub works : (o : ArithmeticOperator) (t : IntType) (x y : ℕ) → Works o t x y
works ar.Multiply t x y = unsigned ar.Multiply t x y (operate ar.Multiply t.signed x y) refl refl
works ar.Add t x y = unsigned ar.Add t x y (operate ar.Add t.signed x y) refl refl
works ar.Subtract t x y = unsigned ar.Subtract t x y (operate ar.Subtract t.signed x y) refl refl
works ar.BitAnd t x y = unsigned ar.BitAnd t x y (operate ar.BitAnd t.signed x y) refl refl
works ar.BitXor t x y = unsigned ar.BitXor t x y (operate ar.BitXor t.signed x y) refl refl
works ar.BitOr t x y = unsigned ar.BitOr t x y (operate ar.BitOr t.signed x y) refl refl
works ar.Divide t x y = by t.signed refl
  where
    by : (s : Bool) → t.signed ≡ s → Works ar.Divide t x y
    by true e = signed ar.Divide t x y (operate ar.Divide true x y) (ap (λ s. result_of (operator_of ar.Divide s) x y) e) (ap (λ s. operate ar.Divide s x y) (sym e))
    by false e = unsigned ar.Divide t x y (operate ar.Divide false x y) (ap (λ s. result_of (operator_of ar.Divide s) x y) e) (ap (λ s. operate ar.Divide s x y) (sym e))
works ar.Remainder t x y = by t.signed refl
  where
    by : (s : Bool) → t.signed ≡ s → Works ar.Remainder t x y
    by true e = signed ar.Remainder t x y (operate ar.Remainder true x y) (ap (λ s. result_of (operator_of ar.Remainder s) x y) e) (ap (λ s. operate ar.Remainder s x y) (sym e))
    by false e = unsigned ar.Remainder t x y (operate ar.Remainder false x y) (ap (λ s. result_of (operator_of ar.Remainder s) x y) e) (ap (λ s. operate ar.Remainder s x y) (sym e))

-- ---- shifts

-- a mask of the width takes the count modulo the width
pub masked : (w y : ℕ) → is_width w ≡ true → narrow UINT64 (bit_and y (w - 1)) ≡ y % w
masked w y known =
    ⊎_elim (λ (e : w ≡ 8). subst (λ w. narrow UINT64 (bit_and y (w - 1)) ≡ y % w) (sym e) (ap (λ z. z % 2 ^ 64) (and_mask y 3) ∙ (let l : y % 2 ^ 3 % 2 ^ 64 ≡ y % 8 = omega arith in l)))
    (⊎_elim (λ (e : w ≡ 16). subst (λ w. narrow UINT64 (bit_and y (w - 1)) ≡ y % w) (sym e) (ap (λ z. z % 2 ^ 64) (and_mask y 4) ∙ (let l : y % 2 ^ 4 % 2 ^ 64 ≡ y % 16 = omega arith in l)))
    (⊎_elim (λ (e : w ≡ 32). subst (λ w. narrow UINT64 (bit_and y (w - 1)) ≡ y % w) (sym e) (ap (λ z. z % 2 ^ 64) (and_mask y 5) ∙ (let l : y % 2 ^ 5 % 2 ^ 64 ≡ y % 32 = omega arith in l)))
    (λ (e : w ≡ 64). subst (λ w. narrow UINT64 (bit_and y (w - 1)) ≡ y % w) (sym e) (ap (λ z. z % 2 ^ 64) (and_mask y 6) ∙ (let l : y % 2 ^ 6 % 2 ^ 64 ≡ y % 64 = omega arith in l)))))
    (widths w known)

count_kept : (w y : ℕ) → is_width w ≡ true → y % w % 64 ≡ y % w
count_kept w y known =
    ⊎_elim (λ (e : w ≡ 8). subst (λ w. y % w % 64 ≡ y % w) (sym e) (let l : y % 8 % 64 ≡ y % 8 = omega arith in l))
    (⊎_elim (λ (e : w ≡ 16). subst (λ w. y % w % 64 ≡ y % w) (sym e) (let l : y % 16 % 64 ≡ y % 16 = omega arith in l))
    (⊎_elim (λ (e : w ≡ 32). subst (λ w. y % w % 64 ≡ y % w) (sym e) (let l : y % 32 % 64 ≡ y % 32 = omega arith in l))
    (λ (e : w ≡ 64). subst (λ w. y % w % 64 ≡ y % w) (sym e) (let l : y % 64 % 64 ≡ y % 64 = omega arith in l))))
    (widths w known)

-- the machine's word, which is the shift's once it is brought to the type
pub record Shifts (o : ShiftOperator) (t : IntType) (x y : ℕ) : Type 0 where
  pub word : ℕ
  pub is : result_of (shift_operator o t.signed) x (y % t.width) ≡ Ok word
  pub same : narrow t word ≡ shift_of o t x y
  pub small : word < 2 ^ 64

pub shifts_as : (o : ShiftOperator) (t : IntType) (x y : ℕ) → Shifts o t x y
shifts_as sh.Left t x y = record {
  word = narrow UINT64 (shift_result sh.Left t.signed x (y % t.width % 64));
  is = refl;
  same = unsigned_again t (shift_result sh.Left t.signed x (y % t.width % 64)) ∙ ap (λ c. narrow t (shift_result sh.Left t.signed x c)) (count_kept t.width y t.known);
  small = unsigned_small (shift_result sh.Left t.signed x (y % t.width % 64));
}
shifts_as sh.Right t x y = by t.signed refl
  where
    by : (s : Bool) → t.signed ≡ s → Shifts sh.Right t x y
    by true e = record {
      word = narrow INT64 (shift_result sh.Right true x (y % t.width % 64));
      is = ap (λ s. result_of (shift_right s) x (y % t.width)) e;
      same = signed_again t (shift_result sh.Right true x (y % t.width % 64)) ∙ ap (λ c. narrow t (shift_result sh.Right true x c)) (count_kept t.width y t.known) ∙ ap (λ s. narrow t (shift_result sh.Right s x (y % t.width))) (sym e);
      small = signed_small (shift_result sh.Right true x (y % t.width % 64));
    }
    by false e = record {
      word = narrow UINT64 (shift_result sh.Right false x (y % t.width % 64));
      is = ap (λ s. result_of (shift_right s) x (y % t.width)) e;
      same = unsigned_again t (shift_result sh.Right false x (y % t.width % 64)) ∙ ap (λ c. narrow t (shift_result sh.Right false x c)) (count_kept t.width y t.known) ∙ ap (λ s. narrow t (shift_result sh.Right s x (y % t.width))) (sym e);
      small = unsigned_small (shift_result sh.Right false x (y % t.width % 64));
    }

-- ---- comparisons

zero_compared : (n : ℕ) → nat_cmp (suc n) 0 ≡ ord.Greater
zero_compared n = let more : 0 < suc n = omega arith in sym (nat_cmp_is (suc n) 0 ord.Greater more)

equal_is : (r : Ordering) → holds_of co.Equal r ≡ is_eq r
equal_is ord.Less = refl
equal_is ord.Equal = refl
equal_is ord.Greater = refl

unequal_is : (r : Ordering) → holds_of co.NotEqual r ≡ cond (is_eq r) false true
unequal_is ord.Less = refl
unequal_is ord.Equal = refl
unequal_is ord.Greater = refl

either_not : (b : Bool) → is_eq (cond b ord.Less ord.Greater) ≡ false
either_not true = refl
either_not false = refl

nat_equal : (x : ℕ) → is_eq (nat_cmp x x) ≡ true
nat_equal x = ap is_eq (sym (nat_cmp_is x x ord.Equal refl))

nat_unequal : (x y : ℕ) → (x ≡ y → ⊥) → is_eq (nat_cmp x y) ≡ false
nat_unequal x y ne = ap (λ b. is_eq (cond (nat_lt x y) ord.Less (cond b ord.Equal ord.Greater))) (ne_eqb x y ne) ∙ either_not (nat_lt x y)

same_word : (x y : ℕ) → x < 2 ^ 64 → y < 2 ^ 64 → cast_signed w64 x ≡ cast_signed w64 y → x ≡ y
same_word x y sx sy e = sym (of_z-to_z w64 x sx) ∙ ap (cast_unsigned w64) e ∙ of_z-to_z w64 y sy

-- two words are the same with a sign or without
equally : (x y : ℕ) → x < 2 ^ 64 → y < 2 ^ 64 → is_eq (nat_cmp x y) ≡ is_eq (int_cmp (cast_signed w64 x) (cast_signed w64 y))
equally x y sx sy =
    ⊎_elim
    (λ (e : x ≡ y). subst (λ z. is_eq (nat_cmp x z) ≡ int_eq (cast_signed w64 x) (cast_signed w64 z)) e (nat_equal x ∙ sym ((Decides-int_eq (cast_signed w64 x) (cast_signed w64 x)).1 refl)))
    (λ (ne : x ≡ y → ⊥). nat_unequal x y ne ∙ sym (false_from_ne_true (int_eq (cast_signed w64 x) (cast_signed w64 y)) (λ h. ne (same_word x y sx sy ((Decides-int_eq (cast_signed w64 x) (cast_signed w64 y)).0 h)))))
    (cases_eq x y)

-- a branch asks what the language's comparison asks
pub condition_is : (o : ComparisonOperator) (s : Bool) (x y : ℕ) → x < 2 ^ 64 → y < 2 ^ 64 → holds (condition_of o s) (comparison_of x y) ≡ holds_of o (cond s (int_cmp (cast_signed w64 x) (cast_signed w64 y)) (nat_cmp x y))
condition_is co.Less true x y sx sy = refl
condition_is co.Less false x y sx sy = refl
condition_is co.LessEqual true x y sx sy = refl
condition_is co.LessEqual false x y sx sy = refl
condition_is co.Greater true x y sx sy = refl
condition_is co.Greater false x y sx sy = refl
condition_is co.GreaterEqual true x y sx sy = refl
condition_is co.GreaterEqual false x y sx sy = refl
condition_is co.Equal false x y sx sy = refl
condition_is co.Equal true x y sx sy = equal_is (nat_cmp x y) ∙ equally x y sx sy ∙ sym (equal_is (int_cmp (cast_signed w64 x) (cast_signed w64 y)))
condition_is co.NotEqual false x y sx sy = refl
condition_is co.NotEqual true x y sx sy = unequal_is (nat_cmp x y) ∙ ap (λ b. cond b false true) (equally x y sx sy) ∙ sym (unequal_is (int_cmp (cast_signed w64 x) (cast_signed w64 y)))

-- and so for texts
pub texts_condition : (o : ComparisonOperator) (x y : List ℕ) → holds (condition_of o false) (text_comparison_of x y) ≡ holds_of o (text_cmp x y)
texts_condition co.Equal x y = refl
texts_condition co.NotEqual x y = refl
texts_condition co.Less x y = refl
texts_condition co.LessEqual x y = refl
texts_condition co.Greater x y = refl
texts_condition co.GreaterEqual x y = refl

-- a word of a type has 64 bits
pub word_small : (t : IntType) (word : ℕ) → IsWord t word → word < 2 ^ 64
word_small t word is = subst (λ w. w < 2 ^ 64) (sym is.2) (bits_small is.0)

-- the comparison with 0
abbrev pub is_zero : ℕ → Bool
is_zero zero = true
is_zero (suc n) = false

abbrev pub is_positive : ℕ → Bool
is_positive zero = false
is_positive (suc n) = true

pub zero_holds : (x : ℕ) → holds Equal (comparison_of x 0) ≡ is_zero x
zero_holds zero = refl
zero_holds (suc n) = ap (holds_of co.Equal) (zero_compared n)

pub positive_holds : (x : ℕ) → holds NotEqual (comparison_of x 0) ≡ is_positive x
positive_holds zero = refl
positive_holds (suc n) = ap (holds_of co.NotEqual) (zero_compared n)

-- ---- the firing

pub argument_is : (xs : List ℤ) (n : ℕ) → machine.word_or_zero (slice_get xs n) ≡ cast_unsigned w64 (get_or xs n (pos 0))
argument_is [] n = refl
argument_is (x ∷ xs) zero = refl
argument_is (x ∷ xs) (suc n) = argument_is xs n

-- ---- variables

pub kept_kind : (t : DType) (v : Value) → IsOf t v → storage.as_kind (kind_of_type t) v ≡ v
kept_kind (ty.Int t) (Int word) is = refl
kept_kind (ty.Int t) (Text bytes) is = absurd is
kept_kind ty.Text (Int word) is = absurd is
kept_kind ty.Text (Text bytes) is = refl

pub on_kind_is : (t : DType) (v : Value) (go : Value → st.Next) → IsOf t v → st.on_kind (kind_of_type t) (Some v) go ≡ go v
on_kind_is (ty.Int t) (Int word) go is = refl
on_kind_is (ty.Int t) (Text bytes) go is = absurd is
on_kind_is ty.Text (Int word) go is = absurd is
on_kind_is ty.Text (Text bytes) go is = refl

pub loads : (w : Space) (slot : ℕ) (t : DType) (d : Reg) (o : Object) (f : Firing) (s : Frame) (vars : Variables) → IsOf t (value_in_space w vars (record { slot = slot; kind = kind_of_type t }) [])
    → st.act (load_from w (record { slot = slot; kind = kind_of_type t }) d) o f s vars ≡ st.puts s d (value_in_space w vars (record { slot = slot; kind = kind_of_type t }) []) vars
loads sp.Thread slot t d o f s vars is = ap (λ v. st.puts s d v vars) (kept_kind t _ is)
loads sp.Clause slot t d o f s vars is = ap (λ v. st.puts s d v vars) (kept_kind t _ is)

pub stores : (w : Space) (slot : ℕ) (t : DType) (a : Reg) (o : Object) (f : Firing) (s : Frame) (vars : Variables) (v : Value) → IsOf t v → at s.registers a ≡ Some v
    → st.act (store_to w (record { slot = slot; kind = kind_of_type t }) a) o f s vars ≡ st.Goes (at_index s (s.pc + 1)) (set_in w vars (record { slot = slot; kind = kind_of_type t }) [] (storage.as_kind (kind_of_type t) v))
stores sp.Thread slot t a o f s vars v is has =
    ap (λ x. st.on_kind (kind_of_type t) x (st.store_own s vars (record { slot = slot; kind = kind_of_type t }) [])) has
    ∙ on_kind_is t v (st.store_own s vars (record { slot = slot; kind = kind_of_type t }) []) is
    ∙ ap (λ x. st.store_own s vars (record { slot = slot; kind = kind_of_type t }) [] x) (sym (kept_kind t v is))
stores sp.Clause slot t a o f s vars v is has =
    ap (λ x. st.on_kind (kind_of_type t) x (st.store_local s vars (record { slot = slot; kind = kind_of_type t }))) has
    ∙ on_kind_is t v (st.store_local s vars (record { slot = slot; kind = kind_of_type t })) is
    ∙ ap (λ x. st.store_local s vars (record { slot = slot; kind = kind_of_type t }) x) (sym (kept_kind t v is))

-- ---- steps by one

-- a word brought to its type keeps the bits of the type
low_kept : (signed : Bool) (w low : ℕ) → is_width w ≡ true → low < 2 ^ w → bits signed w low % 2 ^ w ≡ low
low_kept signed w low known less = by (signed && nat_le (2 ^ (w - 1)) low)
  where
    more : (low + (2 ^ 64 - 2 ^ w)) % 2 ^ w ≡ low
    more =
        ⊎_elim (λ (e : w ≡ 8). let l : low < 2 ^ 8 = subst (λ w. low < 2 ^ w) e less in subst (λ w. (low + (2 ^ 64 - 2 ^ w)) % 2 ^ w ≡ low) (sym e) (omega arith))
        (⊎_elim (λ (e : w ≡ 16). let l : low < 2 ^ 16 = subst (λ w. low < 2 ^ w) e less in subst (λ w. (low + (2 ^ 64 - 2 ^ w)) % 2 ^ w ≡ low) (sym e) (omega arith))
        (⊎_elim (λ (e : w ≡ 32). let l : low < 2 ^ 32 = subst (λ w. low < 2 ^ w) e less in subst (λ w. (low + (2 ^ 64 - 2 ^ w)) % 2 ^ w ≡ low) (sym e) (omega arith))
        (λ (e : w ≡ 64). let l : low < 2 ^ 64 = subst (λ w. low < 2 ^ w) e less in subst (λ w. (low + (2 ^ 64 - 2 ^ w)) % 2 ^ w ≡ low) (sym e) (omega arith))))
        (widths w known)

    by : (b : Bool) → cond b (low + (2 ^ 64 - 2 ^ w)) low % 2 ^ w ≡ low
    by true = more
    by false = mod-eq_of_lt less

-- there and back, of the lowest bits
returned : (step : Step) (w old n : ℕ) → is_width w ≡ true → n % 2 ^ w ≡ step_result step old % 2 ^ w → step_result (opposite step) n % 2 ^ w ≡ old % 2 ^ w
returned step w old n known =
    ⊎_elim (λ (e : w ≡ 8). subst (λ w. n % 2 ^ w ≡ step_result step old % 2 ^ w → step_result (opposite step) n % 2 ^ w ≡ old % 2 ^ w) (sym e) (by_8 step))
    (⊎_elim (λ (e : w ≡ 16). subst (λ w. n % 2 ^ w ≡ step_result step old % 2 ^ w → step_result (opposite step) n % 2 ^ w ≡ old % 2 ^ w) (sym e) (by_16 step))
    (⊎_elim (λ (e : w ≡ 32). subst (λ w. n % 2 ^ w ≡ step_result step old % 2 ^ w → step_result (opposite step) n % 2 ^ w ≡ old % 2 ^ w) (sym e) (by_32 step))
    (λ (e : w ≡ 64). subst (λ w. n % 2 ^ w ≡ step_result step old % 2 ^ w → step_result (opposite step) n % 2 ^ w ≡ old % 2 ^ w) (sym e) (by_64 step))))
    (widths w known)
  where
    by_8 : (step : Step) → n % 2 ^ 8 ≡ step_result step old % 2 ^ 8 → step_result (opposite step) n % 2 ^ 8 ≡ old % 2 ^ 8
    by_8 sp1.Increment h = omega arith
    by_8 sp1.Decrement h = omega arith

    by_16 : (step : Step) → n % 2 ^ 16 ≡ step_result step old % 2 ^ 16 → step_result (opposite step) n % 2 ^ 16 ≡ old % 2 ^ 16
    by_16 sp1.Increment h = omega arith
    by_16 sp1.Decrement h = omega arith

    by_32 : (step : Step) → n % 2 ^ 32 ≡ step_result step old % 2 ^ 32 → step_result (opposite step) n % 2 ^ 32 ≡ old % 2 ^ 32
    by_32 sp1.Increment h = omega arith
    by_32 sp1.Decrement h = omega arith

    by_64 : (step : Step) → n % 2 ^ 64 ≡ step_result step old % 2 ^ 64 → step_result (opposite step) n % 2 ^ 64 ≡ old % 2 ^ 64
    by_64 sp1.Increment h = omega arith
    by_64 sp1.Decrement h = omega arith

-- a word of a type moved by one, and back
pub stepped_back : (step : Step) (t : IntType) (old : ℕ) → IsWord t old → narrow t (step_result (opposite step) (narrow t (step_result step old))) ≡ old
stepped_back step t old is =
    ap (bits t.signed t.width)
    (returned step t.width old (narrow t (step_result step old)) t.known (low_kept t.signed t.width (step_result step old % 2 ^ t.width) t.known (mod_below (step_result step old) (2 ^ t.width) (pow_pos t.width))))
    ∙ narrow_leaves t old is

-- the machine's step is the language's
pub step_is : (step : Step) (x : ℕ) → result_of (step_operator step) x 1 ≡ Ok (narrow UINT64 (step_result step x))
step_is sp1.Increment x = refl
step_is sp1.Decrement x = refl
