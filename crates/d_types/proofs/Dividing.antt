-- Expressions without division give a value.
use Rattle.std.proofs.Common.{◌≡◌, ℕ, zero, suc, false, ◌||◌, ◌∷◌, length, refl}
use Rattle.d_values.specs.declared.value.Value.{Value}
use Rattle.d_values.specs.declared.value.Value.TheVariants as va
use Rattle.d_values.specs.Operators.{holds_of}
use Rattle.d_values.specs.Texts.{text_cmp, joined_text}
use Rattle.d_values.specs.Words.{narrow, order_of, divides}
use Rattle.firings.specs.declared.firing.Firing.{Firing}
use Rattle.d_parser.specs.declared.operators.LogicOperator.TheVariants as lo
use Rattle.d_types.specs.declared.typed.Operation.{Operation}
use Rattle.d_types.specs.declared.typed.Operation.TheVariants as op
use Rattle.d_types.specs.Typed.{Typed, Constant, Text, Fixed, Read, Unary, Operate, Compare}
use Rattle.d_types.specs.Typed.{CompareText, Logic, Choice, Convert, Assign, Update, Count, Strlen}
use Rattle.d_types.specs.Typed.{Strjoin, Typeds, end, more}
use Rattle.d_types.specs.Storage.{Variables, word_of, value_of_variable}
use Rattle.d_types.specs.Expressions.{Outcome, Has, Faults, with, word_or_fault, integer}
use Rattle.d_types.specs.Expressions.{number_outcome}
use Rattle.d_types.specs.Expressions.{text_outcome, truth, bit, inverse, at_zero, part_of, unary_of}
use Rattle.d_types.specs.Expressions.{operation_of, works_in, assignment_outcome, update_outcome}
use Rattle.d_types.specs.Expressions.{step_outcome, eval, keys_of}
use Rattle.d_types.specs.Laws.{is_division, has_division, has_division_in, is_fault}
use Rattle.d_types.proofs.Neither.{left, right}

abbrev Succeeds : {A : Type 0} → Outcome A → Type 0
Succeeds o = is_fault o ≡ false

one : {A B : Type 0} (o : Outcome A) (go : A → Variables → Outcome B) →
    Succeeds o → ((x : A) (vars : Variables) → Succeeds (go x vars)) → Succeeds (with o go)
one (Has x after) go good rest = rest x after
one (Faults after) go good rest = good

word : (o : Outcome Value) → Succeeds o → Succeeds (number_outcome o)
word (Has x after) good = refl
word (Faults after) good = good

bytes : (o : Outcome Value) → Succeeds o → Succeeds (text_outcome o)
bytes (Has x after) good = refl
bytes (Faults after) good = good

by_zero : {A : Type 0} (n : ℕ) (a b : Outcome A) → Succeeds a → Succeeds b → Succeeds (at_zero n a b)
by_zero zero a b h k = h
by_zero (suc n) a b h k = k

-- the operator has a word
given_word : (o : Operation) (x y : ℕ) (vars : Variables) → is_division o ≡ false → Succeeds (word_or_fault (operation_of o x y) vars)
given_word (op.Arithmetic o t) x y vars none = let e : divides o ≡ false = none in rw e refl
given_word (op.Shift o t) x y vars none = refl

quotient : (o : Operation) (x y : ℕ) (vars : Variables) → is_division o ≡ false → Succeeds (integer (word_or_fault (operation_of o x y) vars))
quotient o x y vars none = one (word_or_fault (operation_of o x y) vars) (λ word. Has (va.Int word)) (given_word o x y vars none) (λ w vars. refl)

mutual
  pub eval_gives : (f : Firing) (e : Typed) (vars : Variables) → has_division e ≡ false → Succeeds (eval f e vars)
  eval_gives f (Constant t w) vars none = refl
  eval_gives f (Text bs) vars none = refl
  eval_gives f (Fixed b) vars none = refl
  eval_gives f (Read x keys) vars none =
      one (keys_of f keys vars) (λ key vars. Has (value_of_variable vars x key) vars) (keys_give f keys vars none) (λ key vars. refl)
  eval_gives f (Unary o t a) vars none =
      one (number_outcome (eval f a vars)) (λ x. Has (va.Int (unary_of o t x))) (word (eval f a vars) (eval_gives f a vars none)) (λ x vars. refl)
  eval_gives f (Operate o a b) vars none =
      let parts : (has_division a || has_division b) ≡ false = right (is_division o) (has_division a || has_division b) none in
      one (number_outcome (eval f a vars)) (λ x vars. with (number_outcome (eval f b vars)) (λ y vars. integer (word_or_fault (operation_of o x y) vars)))
      (word (eval f a vars) (eval_gives f a vars (left (has_division a) (has_division b) parts)))
      (λ x vars. one (number_outcome (eval f b vars)) (λ y vars. integer (word_or_fault (operation_of o x y) vars))
      (word (eval f b vars) (eval_gives f b vars (right (has_division a) (has_division b) parts)))
      (λ y vars. quotient o x y vars (left (is_division o) (has_division a || has_division b) none)))
  eval_gives f (Compare o t a b) vars none =
      one (number_outcome (eval f a vars)) (λ x vars. with (number_outcome (eval f b vars)) (λ y. Has (va.Int (truth (holds_of o (order_of t x y))))))
      (word (eval f a vars) (eval_gives f a vars (left (has_division a) (has_division b) none)))
      (λ x vars. one (number_outcome (eval f b vars)) (λ y. Has (va.Int (truth (holds_of o (order_of t x y)))))
      (word (eval f b vars) (eval_gives f b vars (right (has_division a) (has_division b) none))) (λ y vars. refl))
  eval_gives f (CompareText o a b) vars none =
      one (text_outcome (eval f a vars)) (λ x vars. with (text_outcome (eval f b vars)) (λ y. Has (va.Int (truth (holds_of o (text_cmp x y))))))
      (bytes (eval f a vars) (eval_gives f a vars (left (has_division a) (has_division b) none)))
      (λ x vars. one (text_outcome (eval f b vars)) (λ y. Has (va.Int (truth (holds_of o (text_cmp x y)))))
      (bytes (eval f b vars) (eval_gives f b vars (right (has_division a) (has_division b) none))) (λ y vars. refl))
  eval_gives f (Logic lo.And a b) vars none =
      one (number_outcome (eval f a vars)) (λ x vars. at_zero x (Has (va.Int 0) vars) (with (number_outcome (eval f b vars)) (λ y. Has (va.Int (bit y)))))
      (word (eval f a vars) (eval_gives f a vars (left (has_division a) (has_division b) none)))
      (λ x vars. by_zero x (Has (va.Int 0) vars) (with (number_outcome (eval f b vars)) (λ y. Has (va.Int (bit y)))) refl
      (one (number_outcome (eval f b vars)) (λ y. Has (va.Int (bit y)))
      (word (eval f b vars) (eval_gives f b vars (right (has_division a) (has_division b) none))) (λ y vars. refl)))
  eval_gives f (Logic lo.Or a b) vars none =
      one (number_outcome (eval f a vars)) (λ x vars. at_zero x (with (number_outcome (eval f b vars)) (λ y. Has (va.Int (bit y)))) (Has (va.Int 1) vars))
      (word (eval f a vars) (eval_gives f a vars (left (has_division a) (has_division b) none)))
      (λ x vars. by_zero x (with (number_outcome (eval f b vars)) (λ y. Has (va.Int (bit y)))) (Has (va.Int 1) vars)
      (one (number_outcome (eval f b vars)) (λ y. Has (va.Int (bit y)))
      (word (eval f b vars) (eval_gives f b vars (right (has_division a) (has_division b) none))) (λ y vars. refl)) refl)
  eval_gives f (Logic lo.Xor a b) vars none =
      one (number_outcome (eval f a vars)) (λ x vars. with (number_outcome (eval f b vars)) (λ y. Has (va.Int (at_zero x (bit y) (inverse y)))))
      (word (eval f a vars) (eval_gives f a vars (left (has_division a) (has_division b) none)))
      (λ x vars. one (number_outcome (eval f b vars)) (λ y. Has (va.Int (at_zero x (bit y) (inverse y))))
      (word (eval f b vars) (eval_gives f b vars (right (has_division a) (has_division b) none))) (λ y vars. refl))
  eval_gives f (Choice t c a b) vars none =
      let others : (has_division a || has_division b) ≡ false = right (has_division c) (has_division a || has_division b) none in
      one (number_outcome (eval f c vars)) (λ x vars. at_zero x (eval f b vars) (eval f a vars))
      (word (eval f c vars) (eval_gives f c vars (left (has_division c) (has_division a || has_division b) none)))
      (λ x vars. by_zero x (eval f b vars) (eval f a vars)
      (eval_gives f b vars (right (has_division a) (has_division b) others)) (eval_gives f a vars (left (has_division a) (has_division b) others)))
  eval_gives f (Convert t u a) vars none =
      one (number_outcome (eval f a vars)) (λ x. Has (va.Int (narrow u x))) (word (eval f a vars) (eval_gives f a vars none)) (λ x vars. refl)
  eval_gives f (Assign x keys a) vars none =
      one (keys_of f keys vars) (λ key vars. with (eval f a vars) (assignment_outcome x key))
      (keys_give f keys vars (left (has_division_in keys) (has_division a) none))
      (λ key vars. one (eval f a vars) (assignment_outcome x key) (eval_gives f a vars (right (has_division_in keys) (has_division a) none)) (λ y vars. refl))
  eval_gives f (Update o x keys a) vars none =
      let parts : (has_division_in keys || has_division a) ≡ false = right (is_division o) (has_division_in keys || has_division a) none in
      one (keys_of f keys vars)
      (λ key vars. with (number_outcome (eval f a vars)) (λ y after. with (word_or_fault (operation_of o (narrow (works_in o) (word_of (value_of_variable vars x key))) y) after) (update_outcome x key)))
      (keys_give f keys vars (left (has_division_in keys) (has_division a) parts))
      (λ key vars. one (number_outcome (eval f a vars))
      (λ y after. with (word_or_fault (operation_of o (narrow (works_in o) (word_of (value_of_variable vars x key))) y) after) (update_outcome x key))
      (word (eval f a vars) (eval_gives f a vars (right (has_division_in keys) (has_division a) parts)))
      (λ y after. one (word_or_fault (operation_of o (narrow (works_in o) (word_of (value_of_variable vars x key))) y) after) (update_outcome x key)
      (given_word o (narrow (works_in o) (word_of (value_of_variable vars x key))) y after (left (is_division o) (has_division_in keys || has_division a) none))
      (λ z vars. refl)))
  eval_gives f (Count step answer x keys) vars none =
      one (keys_of f keys vars) (λ key vars. step_outcome step answer x key (word_of (value_of_variable vars x key)) vars) (keys_give f keys vars none) (λ key vars. refl)
  eval_gives f (Strlen a) vars none =
      one (text_outcome (eval f a vars)) (λ x. Has (va.Int (length x))) (bytes (eval f a vars) (eval_gives f a vars none)) (λ x vars. refl)
  eval_gives f (Strjoin a b) vars none =
      one (text_outcome (eval f a vars)) (λ x vars. with (text_outcome (eval f b vars)) (λ y. Has (va.Text (joined_text x y))))
      (bytes (eval f a vars) (eval_gives f a vars (left (has_division a) (has_division b) none)))
      (λ x vars. one (text_outcome (eval f b vars)) (λ y. Has (va.Text (joined_text x y)))
      (bytes (eval f b vars) (eval_gives f b vars (right (has_division a) (has_division b) none))) (λ y vars. refl))

  keys_give : (f : Firing) (keys : Typeds) (vars : Variables) → has_division_in keys ≡ false → Succeeds (keys_of f keys vars)
  keys_give f end vars none = refl
  keys_give f (more a rest) vars none =
      one (eval f a vars) (λ x vars. with (keys_of f rest vars) (λ key. Has (part_of x ∷ key)))
      (eval_gives f a vars (left (has_division a) (has_division_in rest) none))
      (λ x vars. one (keys_of f rest vars) (λ key. Has (part_of x ∷ key))
      (keys_give f rest vars (right (has_division a) (has_division_in rest) none)) (λ key vars. refl))
