-- Expressions without assignments leave the variables as they were.
use Rattle.std.proofs.Common.{◌≡◌, ℕ, zero, suc, false, ◌||◌, ◌∷◌, length, refl, sym, subst, Result}
use Rattle.std.proofs.Common.{Ok, Err}
use Rattle.d_values.specs.declared.arithmetic.OutOfZero.{OutOfZero}
use Rattle.d_values.specs.declared.value.Value.{Value}
use Rattle.d_values.specs.declared.value.Value.TheVariants as va
use Rattle.d_values.specs.Operators.{holds_of}
use Rattle.d_values.specs.Texts.{text_cmp, joined_text}
use Rattle.d_values.specs.Words.{narrow, order_of}
use Rattle.firings.specs.declared.firing.Firing.{Firing}
use Rattle.d_parser.specs.declared.operators.LogicOperator.TheVariants as lo
use Rattle.d_types.specs.Typed.{Typed, Constant, Text, Fixed, Read, Unary, Operate, Compare}
use Rattle.d_types.specs.Typed.{CompareText, Logic, Choice, Convert, Assign, Update, Count, Strlen}
use Rattle.d_types.specs.Typed.{Strjoin, Typeds, end, more}
use Rattle.d_types.specs.Storage.{Variables, value_of_variable}
use Rattle.d_types.specs.Expressions.{Outcome, Has, Faults, with, word_or_fault, integer}
use Rattle.d_types.specs.Expressions.{number_outcome}
use Rattle.d_types.specs.Expressions.{text_outcome, truth, bit, inverse, at_zero, part_of, unary_of}
use Rattle.d_types.specs.Expressions.{operation_of, eval, keys_of}
use Rattle.d_types.specs.Laws.{assigns, assigns_in, variables_after}
use Rattle.d_types.proofs.Neither.{left, right}

abbrev Keeps : {A : Type 0} → Variables → Outcome A → Type 0
Keeps vars o = variables_after o ≡ vars

one : {A B : Type 0} (vars : Variables) (o : Outcome A) (go : A → Variables → Outcome B) →
    Keeps vars o → ((x : A) → Keeps vars (go x vars)) → Keeps vars (with o go)
one vars (Has x after) go same rest = let P : Variables → Type 0 = λ v. Keeps vars (go x v) in subst P (sym same) (rest x)
one vars (Faults after) go same rest = same

word : (vars : Variables) (o : Outcome Value) → Keeps vars o → Keeps vars (number_outcome o)
word vars (Has x after) same = same
word vars (Faults after) same = same

bytes : (vars : Variables) (o : Outcome Value) → Keeps vars o → Keeps vars (text_outcome o)
bytes vars (Has x after) same = same
bytes vars (Faults after) same = same

by_zero : {A : Type 0} (vars : Variables) (n : ℕ) (a b : Outcome A) → Keeps vars a → Keeps vars b → Keeps vars (at_zero n a b)
by_zero vars zero a b h k = h
by_zero vars (suc n) a b h k = k

quotient : (vars : Variables) (r : Result ℕ OutOfZero) → Keeps vars (integer (word_or_fault r vars))
quotient vars (Ok w) = refl
quotient vars (Err e) = refl

mutual
  pub eval_keeps : (f : Firing) (e : Typed) (vars : Variables) → assigns e ≡ false → Keeps vars (eval f e vars)
  eval_keeps f (Constant t w) vars none = refl
  eval_keeps f (Text bs) vars none = refl
  eval_keeps f (Fixed b) vars none = refl
  eval_keeps f (Read x keys) vars none =
      one vars (keys_of f keys vars) (λ key vars. Has (value_of_variable vars x key) vars) (keys_keep f keys vars none) (λ key. refl)
  eval_keeps f (Unary o t a) vars none =
      one vars (number_outcome (eval f a vars)) (λ x. Has (va.Int (unary_of o t x))) (word vars (eval f a vars) (eval_keeps f a vars none)) (λ x. refl)
  eval_keeps f (Operate o a b) vars none =
      one vars (number_outcome (eval f a vars)) (λ x vars. with (number_outcome (eval f b vars)) (λ y vars. integer (word_or_fault (operation_of o x y) vars)))
      (word vars (eval f a vars) (eval_keeps f a vars (left (assigns a) (assigns b) none)))
      (λ x. one vars (number_outcome (eval f b vars)) (λ y vars. integer (word_or_fault (operation_of o x y) vars))
      (word vars (eval f b vars) (eval_keeps f b vars (right (assigns a) (assigns b) none))) (λ y. quotient vars (operation_of o x y)))
  eval_keeps f (Compare o t a b) vars none =
      one vars (number_outcome (eval f a vars)) (λ x vars. with (number_outcome (eval f b vars)) (λ y. Has (va.Int (truth (holds_of o (order_of t x y))))))
      (word vars (eval f a vars) (eval_keeps f a vars (left (assigns a) (assigns b) none)))
      (λ x. one vars (number_outcome (eval f b vars)) (λ y. Has (va.Int (truth (holds_of o (order_of t x y)))))
      (word vars (eval f b vars) (eval_keeps f b vars (right (assigns a) (assigns b) none))) (λ y. refl))
  eval_keeps f (CompareText o a b) vars none =
      one vars (text_outcome (eval f a vars)) (λ x vars. with (text_outcome (eval f b vars)) (λ y. Has (va.Int (truth (holds_of o (text_cmp x y))))))
      (bytes vars (eval f a vars) (eval_keeps f a vars (left (assigns a) (assigns b) none)))
      (λ x. one vars (text_outcome (eval f b vars)) (λ y. Has (va.Int (truth (holds_of o (text_cmp x y)))))
      (bytes vars (eval f b vars) (eval_keeps f b vars (right (assigns a) (assigns b) none))) (λ y. refl))
  eval_keeps f (Logic lo.And a b) vars none =
      one vars (number_outcome (eval f a vars)) (λ x vars. at_zero x (Has (va.Int 0) vars) (with (number_outcome (eval f b vars)) (λ y. Has (va.Int (bit y)))))
      (word vars (eval f a vars) (eval_keeps f a vars (left (assigns a) (assigns b) none)))
      (λ x. by_zero vars x (Has (va.Int 0) vars) (with (number_outcome (eval f b vars)) (λ y. Has (va.Int (bit y)))) refl
      (one vars (number_outcome (eval f b vars)) (λ y. Has (va.Int (bit y)))
      (word vars (eval f b vars) (eval_keeps f b vars (right (assigns a) (assigns b) none))) (λ y. refl)))
  eval_keeps f (Logic lo.Or a b) vars none =
      one vars (number_outcome (eval f a vars)) (λ x vars. at_zero x (with (number_outcome (eval f b vars)) (λ y. Has (va.Int (bit y)))) (Has (va.Int 1) vars))
      (word vars (eval f a vars) (eval_keeps f a vars (left (assigns a) (assigns b) none)))
      (λ x. by_zero vars x (with (number_outcome (eval f b vars)) (λ y. Has (va.Int (bit y)))) (Has (va.Int 1) vars)
      (one vars (number_outcome (eval f b vars)) (λ y. Has (va.Int (bit y)))
      (word vars (eval f b vars) (eval_keeps f b vars (right (assigns a) (assigns b) none))) (λ y. refl)) refl)
  eval_keeps f (Logic lo.Xor a b) vars none =
      one vars (number_outcome (eval f a vars)) (λ x vars. with (number_outcome (eval f b vars)) (λ y. Has (va.Int (at_zero x (bit y) (inverse y)))))
      (word vars (eval f a vars) (eval_keeps f a vars (left (assigns a) (assigns b) none)))
      (λ x. one vars (number_outcome (eval f b vars)) (λ y. Has (va.Int (at_zero x (bit y) (inverse y))))
      (word vars (eval f b vars) (eval_keeps f b vars (right (assigns a) (assigns b) none))) (λ y. refl))
  eval_keeps f (Choice t c a b) vars none =
      let others : (assigns a || assigns b) ≡ false = right (assigns c) (assigns a || assigns b) none in
      one vars (number_outcome (eval f c vars)) (λ x vars. at_zero x (eval f b vars) (eval f a vars))
      (word vars (eval f c vars) (eval_keeps f c vars (left (assigns c) (assigns a || assigns b) none)))
      (λ x. by_zero vars x (eval f b vars) (eval f a vars)
      (eval_keeps f b vars (right (assigns a) (assigns b) others)) (eval_keeps f a vars (left (assigns a) (assigns b) others)))
  eval_keeps f (Convert t u a) vars none =
      one vars (number_outcome (eval f a vars)) (λ x. Has (va.Int (narrow u x))) (word vars (eval f a vars) (eval_keeps f a vars none)) (λ x. refl)
  eval_keeps f (Assign x keys a) vars none = cc
  eval_keeps f (Update o x keys a) vars none = cc
  eval_keeps f (Count step answer x keys) vars none = cc
  eval_keeps f (Strlen a) vars none =
      one vars (text_outcome (eval f a vars)) (λ x. Has (va.Int (length x))) (bytes vars (eval f a vars) (eval_keeps f a vars none)) (λ x. refl)
  eval_keeps f (Strjoin a b) vars none =
      one vars (text_outcome (eval f a vars)) (λ x vars. with (text_outcome (eval f b vars)) (λ y. Has (va.Text (joined_text x y))))
      (bytes vars (eval f a vars) (eval_keeps f a vars (left (assigns a) (assigns b) none)))
      (λ x. one vars (text_outcome (eval f b vars)) (λ y. Has (va.Text (joined_text x y)))
      (bytes vars (eval f b vars) (eval_keeps f b vars (right (assigns a) (assigns b) none))) (λ y. refl))

  pub keys_keep : (f : Firing) (keys : Typeds) (vars : Variables) → assigns_in keys ≡ false → Keeps vars (keys_of f keys vars)
  keys_keep f end vars none = refl
  keys_keep f (more a rest) vars none =
      one vars (eval f a vars) (λ x vars. with (keys_of f rest vars) (λ key. Has (part_of x ∷ key)))
      (eval_keeps f a vars (left (assigns a) (assigns_in rest) none))
      (λ x. one vars (keys_of f rest vars) (λ key. Has (part_of x ∷ key))
      (keys_keep f rest vars (right (assigns a) (assigns_in rest) none)) (λ key. refl))
