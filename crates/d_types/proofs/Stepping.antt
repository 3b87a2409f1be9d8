-- `++` and `--` are `+= 1` and `-= 1`.
use Rattle.std.proofs.Common.{◌≡◌, ℕ, ◌+◌, ◌-◌, ◌*◌, ◌%◌, ◌^◌, ◌<◌, ◌≤◌, nat_lt, nat_le, ◌⊎◌, inl}
use Rattle.std.proofs.Common.{inr, List, Bool, true, false, ◌&&◌, if◌then◌else◌, refl, sym, ap, ◌∙◌}
use Rattle.std.proofs.Common.{subst, arith}
use Rattle.std.proofs.lemmas.Bool.Decides.{nat_tests}
use Rattle.d_parser.specs.declared.operators.Step.{Step}
use Rattle.d_parser.specs.declared.operators.Step.TheVariants as st
use Rattle.d_values.specs.declared.int_type.IntType.{IntType}
use Rattle.d_values.specs.declared.int_type.DType.{DType}
use Rattle.d_values.specs.declared.int_type.DType.TheVariants as ty
use Rattle.d_values.specs.declared.key.KeyPart.{KeyPart}
use Rattle.d_values.specs.declared.value.Value.{Value}
use Rattle.d_values.specs.declared.value.Value.TheVariants as va
use Rattle.d_values.specs.Types.{INT32, type_rank, higher, common_of}
use Rattle.d_values.specs.Words.{sign_extension, narrow, operate}
use Rattle.d_values.proofs.Narrowing.{extended_low}
use Rattle.d_values.proofs.Wrapping.{by_width}
use Rattle.firings.specs.declared.firing.Firing.{Firing}
use Rattle.d_types.specs.declared.typed.Answer.TheVariants as an
use Rattle.d_types.specs.declared.typed.Operation.TheVariants as op
use Rattle.d_types.specs.declared.typed.Variable.{Variable}
use Rattle.d_types.specs.Typed.{Constant, Read, Count, Typeds}
use Rattle.d_types.specs.Operators.{conversion_node}
use Rattle.d_types.specs.Storage.{Variables, word_of, value_of_variable}
use Rattle.d_types.specs.Expressions.{Outcome, Has, Faults, with, word_or_fault, number_outcome}
use Rattle.d_types.specs.Expressions.{operation_of, word_as_type, step_result, assignment_outcome}
use Rattle.d_types.specs.Expressions.{update_outcome, step_outcome, eval, keys_of}
use Rattle.d_types.specs.Laws.{operator_of_step, changed_by_one, variables_after, with_after}
use Rattle.d_types.proofs.InPlace.{converts}
use Rattle.d_types.proofs.ValueTypes.{int_word}

-- a width within another: what lies above the first doesn't show in it
record Nests (low high : ℕ) : Type 0 where
  signs : (w : ℕ) → (w + (2 ^ 64 - 2 ^ high)) % 2 ^ low ≡ w % 2 ^ low
  inner : (w : ℕ) → (w % 2 ^ high) % 2 ^ low ≡ w % 2 ^ low
  more : (x a : ℕ) → x % 2 ^ low ≡ a % 2 ^ low → ((x + 1) % 2 ^ 64) % 2 ^ low ≡ ((a + 1) % 2 ^ 64) % 2 ^ low
  less : (x a : ℕ) → x % 2 ^ low ≡ a % 2 ^ low → ((x + (2 ^ 64 - 1)) % 2 ^ 64) % 2 ^ low ≡ ((a + (2 ^ 64 - 1)) % 2 ^ 64) % 2 ^ low
  one : 1 % 2 ^ high ≡ 1
  positive : 1 < 2 ^ (high - 1)

eight : Nests 8 32
eight = record { signs = λ w. omega arith; inner = λ w. omega arith; more = λ x a e. omega arith; less = λ x a e. omega arith; one = refl; positive = omega arith }

sixteen : Nests 16 32
sixteen = record { signs = λ w. omega arith; inner = λ w. omega arith; more = λ x a e. omega arith; less = λ x a e. omega arith; one = refl; positive = omega arith }

half : Nests 32 32
half = record { signs = λ w. omega arith; inner = λ w. omega arith; more = λ x a e. omega arith; less = λ x a e. omega arith; one = refl; positive = omega arith }

whole : Nests 64 64
whole = record { signs = λ w. omega arith; inner = λ w. omega arith; more = λ x a e. omega arith; less = λ x a e. omega arith; one = refl; positive = omega arith }

-- ---- the common type with int

wide : (t : IntType) → ((common_of t INT32).width ≡ t.width) × (32 ≤ t.width) ⊎ ((common_of t INT32).width ≡ 32) × (t.width < 32)
wide t = by (nat_lt t.width 32) refl
  where
    at : (b : Bool) → nat_lt (type_rank t) 64 ≡ b → 32 ≤ t.width → (if b then INT32 else t).width ≡ t.width
    at true e h = absurd (ranked t.signed e)
      where
        ranked : (s : Bool) → nat_lt (2 * t.width + (if s then 0 else 1)) 64 ≡ true → ⊥
        ranked true d = grind (arith, nat_tests, h)
        ranked false d = grind (arith, nat_tests, h)
    at false e h = refl

    by : (b : Bool) → nat_lt t.width 32 ≡ b →
        ((higher (if b then INT32 else t) INT32).width ≡ t.width) × (32 ≤ t.width) ⊎ ((higher (if b then INT32 else t) INT32).width ≡ 32) × (t.width < 32)
    by true e = let low : t.width < 32 = grind (arith, nat_tests) in inr (refl, low)
    by false e = let high : 32 ≤ t.width = grind (arith, nat_tests) in inl (at (nat_lt (type_rank t) 64) refl high, high)

nests : (t : IntType) → Nests t.width (common_of t INT32).width
nests t =
    by_width (λ w. (high : ℕ) → ((high ≡ w) × (32 ≤ w)) ⊎ ((high ≡ 32) × (w < 32)) → Nests w high)
    (λ high h. narrow_case 8 high eight (omega arith) h) (λ high h. narrow_case 16 high sixteen (omega arith) h)
    (λ high h. wide_case 32 high half (omega arith) h) (λ high h. wide_case 64 high whole (omega arith) h)
    t.width t.known (common_of t INT32).width (wide t)
  where
    narrow_case : (w high : ℕ) → Nests w 32 → w < 32 → ((high ≡ w) × (32 ≤ w)) ⊎ ((high ≡ 32) × (w < 32)) → Nests w high
    narrow_case w high n small (inl h) = let long : 32 ≤ w = h.1 in absurd (omega arith)
    narrow_case w high n small (inr h) = subst (Nests w) (sym h.0) n

    wide_case : (w high : ℕ) → Nests w w → 32 ≤ w → ((high ≡ w) × (32 ≤ w)) ⊎ ((high ≡ 32) × (w < 32)) → Nests w high
    wide_case w high n large (inl h) = subst (Nests w) (sym h.0) n
    wide_case w high n large (inr h) = let short : w < 32 = h.1 in absurd (omega arith)

-- ---- steps

module _ (t : IntType) where
  abbrev common : IntType
  common = common_of t INT32

  -- a word of the common type has the lowest bits of what it was made of
  lowest : (w : ℕ) → narrow common w % 2 ^ t.width ≡ w % 2 ^ t.width
  lowest w = either (common.signed && nat_le (2 ^ (common.width - 1)) (w % 2 ^ common.width))
    where
      either : (b : Bool) → (if b then w % 2 ^ common.width + (2 ^ 64 - 2 ^ common.width) else w % 2 ^ common.width) % 2 ^ t.width ≡ w % 2 ^ t.width
      either true = (nests t).signs (w % 2 ^ common.width) ∙ (nests t).inner w
      either false = (nests t).inner w

  one_is : narrow common 1 ≡ 1
  one_is = ap (sign_extension common) (nests t).one ∙ extended_low common 1 (nests t).positive

  step_is : (by : Step) (old : ℕ) → narrow t (narrow common (operate (operator_of_step by) common.signed (narrow common old) 1)) ≡ narrow t (step_result by old)
  step_is st.Increment old = ap (sign_extension t) (lowest ((narrow common old + 1) % 2 ^ 64) ∙ (nests t).more (narrow common old) old (lowest old))
  step_is st.Decrement old = ap (sign_extension t) (lowest ((narrow common old + (2 ^ 64 - 1)) % 2 ^ 64) ∙ (nests t).less (narrow common old) old (lowest old))

  result_is : (by : Step) (x y : ℕ) (vars : Variables) → word_or_fault (operation_of (op.Arithmetic (operator_of_step by) common) x y) vars ≡ Has (narrow common (operate (operator_of_step by) common.signed x y)) vars
  result_is st.Increment x y vars = refl
  result_is st.Decrement x y vars = refl

  pub step_is_update : (f : Firing) (by : Step) (x : Variable) (keys : Typeds) (vars : Variables) → x.holds ≡ ty.Int t →
      eval f (Count by an.New x keys) vars ≡ eval f (changed_by_one by t x keys) vars
  step_is_update f by x keys vars e = each (keys_of f keys vars)
    where
      at : (key : List KeyPart) (vars : Variables) →
          step_outcome by an.New x key (word_of (value_of_variable vars x key)) vars
          ≡ with (number_outcome (eval f (conversion_node INT32 common (Constant INT32 1)) vars)) (λ y after. with (word_or_fault (operation_of (op.Arithmetic (operator_of_step by) common) (narrow common (word_of (value_of_variable vars x key))) y) after) (update_outcome x key))
      at key vars =
          let old = word_of (value_of_variable vars x key) in
          let first = narrow common old in
          let right : eval f (conversion_node INT32 common (Constant INT32 1)) vars ≡ Has (va.Int 1) vars =
          converts f INT32 common (Constant INT32 1) vars (int_word 1 (omega arith)) ∙ ap (λ n. Has (va.Int n) vars) one_is
          in
          let word : word_as_type x.holds (step_result by old) ≡ word_as_type x.holds (narrow common (operate (operator_of_step by) common.signed first 1)) =
          ap (λ (u : DType). word_as_type u (step_result by old)) e ∙ sym (step_is by old) ∙ ap (λ (u : DType). word_as_type u (narrow common (operate (operator_of_step by) common.signed first 1))) (sym e)
          in
          ap (λ n. assignment_outcome x key (va.Int n) vars) word
          ∙ sym (ap (λ (o : Outcome ℕ). with o (update_outcome x key)) (result_is by first 1 vars))
          ∙ sym (ap (λ (o : Outcome Value). with (number_outcome o) (λ y after. with (word_or_fault (operation_of (op.Arithmetic (operator_of_step by) common) first y) after) (update_outcome x key))) right)

      each : (k : Outcome (List KeyPart)) →
          with k (λ key vars. step_outcome by an.New x key (word_of (value_of_variable vars x key)) vars)
          ≡ with k (λ key vars. with (number_outcome (eval f (conversion_node INT32 common (Constant INT32 1)) vars)) (λ y after. with (word_or_fault (operation_of (op.Arithmetic (operator_of_step by) common) (narrow common (word_of (value_of_variable vars x key))) y) after) (update_outcome x key)))
      each (Has key after) = at key after
      each (Faults after) = refl

-- after the variable they have the value that it had
pub old_is_read : (f : Firing) (by : Step) (x : Variable) (keys : Typeds) (vars : Variables) →
    eval f (Count by an.Old x keys) vars ≡ with_after (variables_after (eval f (Count by an.New x keys) vars)) (number_outcome (eval f (Read x keys) vars))
old_is_read f by x keys vars = each (keys_of f keys vars)
  where
    each : (k : Outcome (List KeyPart)) →
        with k (λ key vars. step_outcome by an.Old x key (word_of (value_of_variable vars x key)) vars)
        ≡ with_after (variables_after (with k (λ key vars. step_outcome by an.New x key (word_of (value_of_variable vars x key)) vars))) (number_outcome (with k (λ key vars. Has (value_of_variable vars x key) vars)))
    each (Has key after) = refl
    each (Faults after) = refl
