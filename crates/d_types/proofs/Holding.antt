-- Values are of their types, and variables hold such values.
use Rattle.std.proofs.Common.{◌≡◌, ℕ, zero, suc, ◌≤◌, List, ◌∷◌, ◌++◌, length, Bool, true, false}
use Rattle.std.proofs.Common.{◌&&◌, if◌then◌else◌, Some, refl, sym, ap, ◌∙◌, subst, arith, Ok, Err}
use Rattle.std.proofs.lemmas.List.{length-take}
use Rattle.d_parser.specs.declared.operators.Step.{Step}
use Rattle.d_parser.specs.declared.operators.UnaryOperator.{UnaryOperator}
use Rattle.d_parser.specs.declared.operators.UnaryOperator.TheVariants as un
use Rattle.d_values.specs.declared.int_type.IntType.{IntType}
use Rattle.d_values.specs.declared.int_type.DType.{DType}
use Rattle.d_values.specs.declared.int_type.DType.TheVariants as ty
use Rattle.d_values.specs.declared.key.KeyPart.{KeyPart}
use Rattle.d_values.specs.declared.value.Value.{Value}
use Rattle.d_values.specs.declared.value.Value.TheVariants as va
use Rattle.d_values.specs.declared.variable.Var.{Var}
use Rattle.d_values.specs.Keys.{same_key}
use Rattle.d_values.specs.Operators.{holds_of}
use Rattle.d_values.specs.Stores.{with_local, with_own}
use Rattle.d_values.specs.Texts.{text_cmp, longest, joined_text}
use Rattle.d_values.specs.Types.{INT32, UINT64}
use Rattle.d_values.specs.Variables.{same_var, same_var_decides}
use Rattle.d_values.specs.Words.{narrow, order_of, operate}
use Rattle.firings.specs.declared.firing.Firing.{Firing}
use Rattle.d_types.specs.declared.typed.Answer.{Answer}
use Rattle.d_types.specs.declared.typed.Answer.TheVariants as an
use Rattle.d_parser.specs.declared.operators.LogicOperator.TheVariants as lo
use Rattle.d_types.specs.declared.typed.Operation.{Operation}
use Rattle.d_types.specs.declared.typed.Operation.TheVariants as op
use Rattle.d_types.specs.declared.typed.Space.{Space}
use Rattle.d_types.specs.declared.typed.Space.TheVariants as sp
use Rattle.d_types.specs.declared.typed.Variable.{Variable}
use Rattle.d_types.specs.Typed.{Typed, Constant, Text, Fixed, Read, Unary, Operate, Compare}
use Rattle.d_types.specs.Typed.{CompareText, Logic, Choice, Convert, Assign, Update, Count, Strlen}
use Rattle.d_types.specs.Typed.{Strjoin, Typeds, end, more, type_of, type_of_unary, works_in}
use Rattle.d_types.specs.Variables.{kind_of_type}
use Rattle.d_types.specs.Storage.{Variables, word_of, bytes_of, as_kind, var_of, value_in_space}
use Rattle.d_types.specs.Storage.{value_of_variable}
use Rattle.d_types.specs.Storage.{set_in, set}
use Rattle.d_types.specs.Expressions.{Outcome, Has, Faults, with, word_or_fault, integer}
use Rattle.d_types.specs.Expressions.{number_outcome}
use Rattle.d_types.specs.Expressions.{text_outcome, truth, bit, inverse, at_zero, part_of, unary_of}
use Rattle.d_types.specs.Expressions.{operation_of, word_as_type, step_result, step_value}
use Rattle.d_types.specs.Expressions.{assignment_outcome, update_outcome, step_outcome, eval}
use Rattle.d_types.specs.Expressions.{keys_of}
use Rattle.d_types.specs.Held.{IsWord, IsOf, HasTypedBuiltIns, Slots, IsKnown, AreTypedLocals}
use Rattle.d_types.specs.Held.{AreTypedOwn, AreTyped, EndsTyped, IsSomeInteger, TakesOperands}
use Rattle.d_types.specs.Held.{IsConsistent}
use Rattle.d_types.specs.Held.{AreConsistent}
use Rattle.d_types.proofs.ValueTypes.{narrow_is, long_word, truth_is, bit_is, inverse_is}

-- ---- values

word_is : (t : IntType) (value : Value) → IsOf (ty.Int t) value → IsWord t (word_of value)
word_is t (va.Int w) is = is
word_is t (va.Text bs) is = absurd is

bytes_are : (value : Value) → IsOf ty.Text value → length (bytes_of value) ≤ longest
bytes_are (va.Int w) is = absurd is
bytes_are (va.Text bs) is = is

-- a value of its type stays the same where it is stored
stored_is : (t : DType) (value : Value) → IsOf t value → IsOf t (as_kind (kind_of_type t) value)
stored_is (ty.Int t) value is = word_is t value is
stored_is ty.Text value is = bytes_are value is

-- ---- variables

-- a variable of these values, at its slot
abbrev at : ℕ → DType → Var
at slot t = record { slot = slot; kind = kind_of_type t }

module _ (slots : Slots) where
  one_type : (x : Variable) (slot : ℕ) (t : DType) → IsKnown slots x → slots slot ≡ Some t → var_of x ≡ at slot t → x.holds ≡ t
  one_type x slot t known other same =
      let index : x.slot ≡ slot = ap (λ (v : Var). v.slot) same in
      let both : Some x.holds ≡ Some t = sym known ∙ ap slots index ∙ other in
      cc

  -- what is read where something of the type of x was set at x
  chosen : (b : Bool) (x : Variable) (t : DType) (new old : Value) → IsOf x.holds new → (b ≡ true → x.holds ≡ t) → IsOf t old → IsOf t (if b then new else old)
  chosen true x t new old is same before = subst (λ u. IsOf u new) (same refl) is
  chosen false x t new old is same before = before

  locals_are : (locals : Var → Value) (x : Variable) (new : Value) → AreTypedLocals slots locals → IsKnown slots x → IsOf x.holds new →
      AreTypedLocals slots (with_local locals (var_of x) new)
  locals_are locals x new good known is slot t other =
      chosen (same_var (var_of x) (at slot t)) x t new (locals (at slot t)) is
      (λ e. one_type x slot t known other ((same_var_decides (var_of x) (at slot t)).0 e)) (good slot t other)

  left_true : (a b : Bool) → a && b ≡ true → a ≡ true
  left_true true b e = refl
  left_true false b e = e

  own_are : (own : Var → List KeyPart → Value) (x : Variable) (index : List KeyPart) (new : Value) → AreTypedOwn slots own → IsKnown slots x → IsOf x.holds new →
      AreTypedOwn slots (with_own own (var_of x) index new)
  own_are own x index new good known is slot t key other =
      chosen (same_var (var_of x) (at slot t) && same_key index key) x t new (own (at slot t) key) is
      (λ e. one_type x slot t known other ((same_var_decides (var_of x) (at slot t)).0 (left_true (same_var (var_of x) (at slot t)) (same_key index key) e)))
      (good slot t key other)

  set_in_is : (s : Space) (vars : Variables) (x : Variable) (index : List KeyPart) (new : Value) → AreTyped slots vars → IsKnown slots x → IsOf x.holds new →
      AreTyped slots (set_in s vars (var_of x) index new)
  set_in_is sp.Thread vars x index new good known is = (good.0, own_are vars.own x index new good.1 known is)
  set_in_is sp.Clause vars x index new good known is = (locals_are vars.locals x new good.0 known is, good.1)

  -- a variable that gets a value of its type
  set_is : (vars : Variables) (x : Variable) (index : List KeyPart) (value : Value) → AreTyped slots vars → IsKnown slots x → IsOf x.holds value →
      AreTyped slots (set vars x index value)
  set_is vars x index value good known is = set_in_is x.space vars x index (as_kind (kind_of_type x.holds) value) good known (stored_is x.holds value is)

  value_in_is : (s : Space) (vars : Variables) (x : Variable) (key : List KeyPart) → AreTyped slots vars → IsKnown slots x → IsOf x.holds (value_in_space s vars (var_of x) key)
  value_in_is sp.Thread vars x key good known = good.1 x.slot x.holds key known
  value_in_is sp.Clause vars x key good known = good.0 x.slot x.holds known

  value_is : (vars : Variables) (x : Variable) (key : List KeyPart) → AreTyped slots vars → IsKnown slots x → IsOf x.holds (value_of_variable vars x key)
  value_is vars x key good known = value_in_is x.space vars x key good known

  -- ---- outcomes

  abbrev Any : {A : Type 0} → A → Type 0
  Any x = Unit {0}

  pub one : {A B : Type 0} (P : A → Type 0) (Q : B → Type 0) (o : Outcome A) (go : A → Variables → Outcome B) →
      EndsTyped slots P o → ((x : A) (vars : Variables) → P x → AreTyped slots vars → EndsTyped slots Q (go x vars)) → EndsTyped slots Q (with o go)
  one P Q (Has x vars) go good rest = rest x vars good.0 good.1
  one P Q (Faults vars) go good rest = good

  word : (t : IntType) (z : DType) (o : Outcome Value) → z ≡ ty.Int t → EndsTyped slots (IsOf z) o → EndsTyped slots (IsWord t) (number_outcome o)
  word t z (Has x vars) e good = (word_is t x (subst (λ u. IsOf u x) e good.0), good.1)
  word t z (Faults vars) e good = good

  abbrev Short : List ℕ → Type 0
  Short bytes = length bytes ≤ longest

  bytes : (z : DType) (o : Outcome Value) → z ≡ ty.Text → EndsTyped slots (IsOf z) o → EndsTyped slots Short (text_outcome o)
  bytes z (Has x vars) e good = (bytes_are x (subst (λ u. IsOf u x) e good.0), good.1)
  bytes z (Faults vars) e good = good

  by_zero : {A : Type 0} (P : A → Type 0) (n : ℕ) (a b : Outcome A) → EndsTyped slots P a → EndsTyped slots P b → EndsTyped slots P (at_zero n a b)
  by_zero P zero a b h k = h
  by_zero P (suc n) a b h k = k

  unary_is : (o : UnaryOperator) (t : IntType) (x : ℕ) → IsWord t x → IsOf (type_of_unary o t) (va.Int (unary_of o t x))
  unary_is un.Not t x is = inverse_is x
  unary_is un.Complement t x is = narrow_is t _
  unary_is un.Negate t x is = narrow_is t _
  unary_is un.Keep t x is = is

  -- the operator's word is of the type that it works in
  quotient : (refused : Bool) (t : IntType) (w : ℕ) (vars : Variables) → AreTyped slots vars →
      EndsTyped slots (IsWord t) (word_or_fault (if refused then Err (record {}) else Ok (narrow t w)) vars)
  quotient true t w vars good = good
  quotient false t w vars good = (narrow_is t w, good)

  operated : (o : Operation) (x y : ℕ) (vars : Variables) → AreTyped slots vars → EndsTyped slots (IsWord (works_in o)) (word_or_fault (operation_of o x y) vars)
  operated (op.Arithmetic o t) x y vars good = quotient _ t (operate o t.signed x y) vars good
  operated (op.Shift o t) x y vars good = (narrow_is t _, good)

  as_integer : (t : IntType) (o : Outcome ℕ) → EndsTyped slots (IsWord t) o → EndsTyped slots (IsOf (ty.Int t)) (integer o)
  as_integer t (Has w vars) good = good
  as_integer t (Faults vars) good = good

  operation_is : (o : Operation) (x y : ℕ) (vars : Variables) → AreTyped slots vars → EndsTyped slots (IsOf (ty.Int (works_in o))) (integer (word_or_fault (operation_of o x y) vars))
  operation_is o x y vars good = as_integer (works_in o) (word_or_fault (operation_of o x y) vars) (operated o x y vars good)

  -- the word that an integer variable is given
  held_is : (t : DType) (w : ℕ) → IsSomeInteger t → IsOf t (va.Int (word_as_type t w))
  held_is (ty.Int t) w some = narrow_is t w
  held_is ty.Text w some = let no = some.1 in cc

  updated_is : (x : Variable) (key : List KeyPart) (w : ℕ) (vars : Variables) → IsKnown slots x → IsSomeInteger x.holds → AreTyped slots vars →
      EndsTyped slots (IsOf x.holds) (update_outcome x key w vars)
  updated_is x key w vars known some good = let is = held_is x.holds w some in (is, set_is vars x key (va.Int (word_as_type x.holds w)) good known is)

  answered_is : (t : DType) (answer : Answer) (old new : ℕ) → IsOf t (va.Int old) → IsOf t (va.Int new) → IsOf t (va.Int (step_value answer old new))
  answered_is t an.New old new before after = after
  answered_is t an.Old old new before after = before

  -- the integer that a variable has
  word_at : (t : DType) (value : Value) → IsSomeInteger t → IsOf t value → IsOf t (va.Int (word_of value))
  word_at (ty.Int t) value some is = word_is t value is
  word_at ty.Text value some is = let no = some.1 in cc

  moved_is : (step : Step) (answer : Answer) (x : Variable) (key : List KeyPart) (vars : Variables) → IsKnown slots x → IsSomeInteger x.holds → AreTyped slots vars →
      EndsTyped slots (IsOf x.holds) (step_outcome step answer x key (word_of (value_of_variable vars x key)) vars)
  moved_is step answer x key vars known some good =
      let old = word_of (value_of_variable vars x key) in
      let is = held_is x.holds (step_result step old) some in (
        answered_is x.holds answer old (word_as_type x.holds (step_result step old)) (word_at x.holds (value_of_variable vars x key) some (value_is vars x key good known)) is,
        set_is vars x key (va.Int (word_as_type x.holds (step_result step old))) good known is,
      )

  changing : (o : Operation) (x : Variable) (key : List KeyPart) (old y : ℕ) (vars : Variables) → IsKnown slots x → IsSomeInteger x.holds → AreTyped slots vars →
      EndsTyped slots (IsOf x.holds) (with (word_or_fault (operation_of o old y) vars) (update_outcome x key))
  changing o x key old y vars known some good =
      one (IsWord (works_in o)) (IsOf x.holds) (word_or_fault (operation_of o old y) vars) (update_outcome x key) (operated o old y vars good)
      (λ w late is well. updated_is x key w late known some well)

  either_is : (n a b : ℕ) → IsWord INT32 a → IsWord INT32 b → IsWord INT32 (at_zero n a b)
  either_is zero a b h k = h
  either_is (suc n) a b h k = k

  cut_is : (x y : List ℕ) → length (joined_text x y) ≤ longest
  cut_is x y = omega (arith, length-take longest (x ++ y))

  -- ---- expressions

  module _ (f : Firing) (fit : HasTypedBuiltIns f) where
    abbrev Good : Typed → Variables → Type 0
    Good z vars = EndsTyped slots (IsOf (type_of z)) (eval f z vars)

    -- integers of both operands, then what is made of them
    two : {A : Type 0} (P : A → Type 0) (t u : IntType) (a b : Typed) (go : ℕ → ℕ → Variables → Outcome A) (vars : Variables) →
        type_of a ≡ ty.Int t → type_of b ≡ ty.Int u → Good a vars → ((late : Variables) → AreTyped slots late → Good b late) →
        ((x y : ℕ) (late : Variables) → IsWord t x → IsWord u y → AreTyped slots late → EndsTyped slots P (go x y late)) →
        EndsTyped slots P (with (number_outcome (eval f a vars)) (λ x vars. with (number_outcome (eval f b vars)) (λ y. go x y)))
    two P t u a b go vars ea eb left right rest =
        one (IsWord t) P (number_outcome (eval f a vars)) (λ x vars. with (number_outcome (eval f b vars)) (λ y. go x y)) (word t (type_of a) (eval f a vars) ea left)
        (λ x late is good. one (IsWord u) P (number_outcome (eval f b late)) (λ y. go x y) (word u (type_of b) (eval f b late) eb (right late good))
        (λ y last also well. rest x y last is also well))

    two_texts : {A : Type 0} (P : A → Type 0) (a b : Typed) (go : List ℕ → List ℕ → Variables → Outcome A) (vars : Variables) →
        type_of a ≡ ty.Text → type_of b ≡ ty.Text → Good a vars → ((late : Variables) → AreTyped slots late → Good b late) →
        ((x y : List ℕ) (late : Variables) → AreTyped slots late → EndsTyped slots P (go x y late)) →
        EndsTyped slots P (with (text_outcome (eval f a vars)) (λ x vars. with (text_outcome (eval f b vars)) (λ y. go x y)))
    two_texts P a b go vars ea eb left right rest =
        one Short P (text_outcome (eval f a vars)) (λ x vars. with (text_outcome (eval f b vars)) (λ y. go x y)) (bytes (type_of a) (eval f a vars) ea left)
        (λ x late is good. one Short P (text_outcome (eval f b late)) (λ y. go x y) (bytes (type_of b) (eval f b late) eb (right late good))
        (λ y last also well. rest x y last well))

    -- the integer of one operand, then what is made of it
    single : {A : Type 0} (P : A → Type 0) (t : IntType) (a : Typed) (go : ℕ → Variables → Outcome A) (vars : Variables) →
        type_of a ≡ ty.Int t → Good a vars → ((x : ℕ) (late : Variables) → IsWord t x → AreTyped slots late → EndsTyped slots P (go x late)) →
        EndsTyped slots P (with (number_outcome (eval f a vars)) go)
    single P t a go vars e good rest = one (IsWord t) P (number_outcome (eval f a vars)) go (word t (type_of a) (eval f a vars) e good) rest

    -- a word, then the operation, then the change
    updating : (o : Operation) (x : Variable) (a : Typed) (key : List KeyPart) (old : ℕ) (vars : Variables) → IsKnown slots x → IsSomeInteger x.holds →
        TakesOperands o (ty.Int (works_in o)) (type_of a) → Good a vars →
        EndsTyped slots (IsOf x.holds) (with (number_outcome (eval f a vars)) (λ y after. with (word_or_fault (operation_of o old y) after) (update_outcome x key)))
    updating (op.Arithmetic o t) x a key old vars known some takes good =
        single (IsOf x.holds) t a (λ y after. with (word_or_fault (operation_of (op.Arithmetic o t) old y) after) (update_outcome x key)) vars takes.1 good
        (λ y late is well. changing (op.Arithmetic o t) x key old y late known some well)
    updating (op.Shift o t) x a key old vars known some takes good =
        single (IsOf x.holds) takes.1.0 a (λ y after. with (word_or_fault (operation_of (op.Shift o t) old y) after) (update_outcome x key)) vars takes.1.1 good
        (λ y late is well. changing (op.Shift o t) x key old y late known some well)

    mutual
      pub eval_is : (z : Typed) (vars : Variables) → IsConsistent slots z → AreTyped slots vars → Good z vars
      eval_is (Constant t w) vars c good = (c, good)
      eval_is (Text bs) vars c good = (c, good)
      eval_is (Fixed b) vars c good = (fit b, good)
      eval_is (Read x keys) vars c good =
          one Any (IsOf x.holds) (keys_of f keys vars) (λ key vars. Has (value_of_variable vars x key) vars) (keys_are keys vars c.1 good)
          (λ key late any well. (value_is late x key well c.0, well))
      eval_is (Unary o t a) vars c good =
          single (IsOf (type_of_unary o t)) t a (λ x. Has (va.Int (unary_of o t x))) vars c.0 (eval_is a vars c.1 good)
          (λ x late is well. (unary_is o t x is, well))
      eval_is (Operate (op.Arithmetic o t) a b) vars c good =
          two (IsOf (ty.Int t)) t t a b (λ x y vars. integer (word_or_fault (operation_of (op.Arithmetic o t) x y) vars)) vars c.0.0 c.0.1
          (eval_is a vars c.1 good) (λ late well. eval_is b late c.2 well)
          (λ x y late is also well. operation_is (op.Arithmetic o t) x y late well)
      eval_is (Operate (op.Shift o t) a b) vars c good =
          two (IsOf (ty.Int t)) t c.0.1.0 a b (λ x y vars. integer (word_or_fault (operation_of (op.Shift o t) x y) vars)) vars c.0.0 c.0.1.1
          (eval_is a vars c.1 good) (λ late well. eval_is b late c.2 well)
          (λ x y late is also well. operation_is (op.Shift o t) x y late well)
      eval_is (Compare o t a b) vars c good =
          two (IsOf (ty.Int INT32)) t t a b (λ x y. Has (va.Int (truth (holds_of o (order_of t x y))))) vars c.0 c.1
          (eval_is a vars c.2 good) (λ late well. eval_is b late c.3 well)
          (λ x y late is also well. (truth_is (holds_of o (order_of t x y)), well))
      eval_is (CompareText o a b) vars c good =
          two_texts (IsOf (ty.Int INT32)) a b (λ x y. Has (va.Int (truth (holds_of o (text_cmp x y))))) vars c.0 c.1
          (eval_is a vars c.2 good) (λ late well. eval_is b late c.3 well)
          (λ x y late well. (truth_is (holds_of o (text_cmp x y)), well))
      eval_is (Logic lo.And a b) vars c good =
          single (IsOf (ty.Int INT32)) c.0.0 a (λ x vars. at_zero x (Has (va.Int 0) vars) (with (number_outcome (eval f b vars)) (λ y. Has (va.Int (bit y))))) vars c.0.1
          (eval_is a vars c.2 good)
          (λ x late is well. by_zero (IsOf (ty.Int INT32)) x (Has (va.Int 0) late) (with (number_outcome (eval f b late)) (λ y. Has (va.Int (bit y)))) (bit_is 0, well)
          (single (IsOf (ty.Int INT32)) c.1.0 b (λ y. Has (va.Int (bit y))) late c.1.1 (eval_is b late c.3 well) (λ y last also fine. (bit_is y, fine))))
      eval_is (Logic lo.Or a b) vars c good =
          single (IsOf (ty.Int INT32)) c.0.0 a (λ x vars. at_zero x (with (number_outcome (eval f b vars)) (λ y. Has (va.Int (bit y)))) (Has (va.Int 1) vars)) vars c.0.1
          (eval_is a vars c.2 good)
          (λ x late is well. by_zero (IsOf (ty.Int INT32)) x (with (number_outcome (eval f b late)) (λ y. Has (va.Int (bit y)))) (Has (va.Int 1) late)
          (single (IsOf (ty.Int INT32)) c.1.0 b (λ y. Has (va.Int (bit y))) late c.1.1 (eval_is b late c.3 well) (λ y last also fine. (bit_is y, fine)))
          (bit_is 1, well))
      eval_is (Logic lo.Xor a b) vars c good =
          two (IsOf (ty.Int INT32)) c.0.0 c.1.0 a b (λ x y. Has (va.Int (at_zero x (bit y) (inverse y)))) vars c.0.1 c.1.1
          (eval_is a vars c.2 good) (λ late well. eval_is b late c.3 well)
          (λ x y late is also well. (either_is x (bit y) (inverse y) (bit_is y) (inverse_is y), well))
      eval_is (Choice t c a b) vars h good =
          single (IsOf t) h.0.0 c (λ x vars. at_zero x (eval f b vars) (eval f a vars)) vars h.0.1 (eval_is c vars h.3 good)
          (λ x late is well. by_zero (IsOf t) x (eval f b late) (eval f a late)
          (subst (λ u. EndsTyped slots (IsOf u) (eval f b late)) h.2 (eval_is b late h.5 well)) (subst (λ u. EndsTyped slots (IsOf u) (eval f a late)) h.1 (eval_is a late h.4 well)))
      eval_is (Convert t u a) vars c good =
          single (IsOf (ty.Int u)) t a (λ x. Has (va.Int (narrow u x))) vars c.0 (eval_is a vars c.1 good) (λ x late is well. (narrow_is u x, well))
      eval_is (Assign x keys a) vars c good =
          one Any (IsOf x.holds) (keys_of f keys vars) (λ key vars. with (eval f a vars) (assignment_outcome x key)) (keys_are keys vars c.1 good)
          (λ key late any well. one (IsOf (type_of a)) (IsOf x.holds) (eval f a late) (assignment_outcome x key) (eval_is a late c.3 well)
          (λ value last is fine. let is : IsOf x.holds value = subst (λ u. IsOf u value) c.2 is in (is, set_is last x key value fine c.0 is)))
      eval_is (Update o x keys a) vars c good =
          one Any (IsOf x.holds) (keys_of f keys vars)
          (λ key vars. with (number_outcome (eval f a vars)) (λ y after.
          with (word_or_fault (operation_of o (narrow (works_in o) (word_of (value_of_variable vars x key))) y) after) (update_outcome x key)))
          (keys_are keys vars c.1 good)
          (λ key late any well. updating o x a key (narrow (works_in o) (word_of (value_of_variable late x key))) late c.0 c.2 c.3 (eval_is a late c.4 well))
      eval_is (Count step answer x keys) vars c good =
          one Any (IsOf x.holds) (keys_of f keys vars) (λ key vars. step_outcome step answer x key (word_of (value_of_variable vars x key)) vars) (keys_are keys vars c.1 good)
          (λ key late any well. moved_is step answer x key late c.0 c.2 well)
      eval_is (Strlen a) vars c good =
          one Short (IsOf (ty.Int UINT64)) (text_outcome (eval f a vars)) (λ x. Has (va.Int (length x))) (bytes (type_of a) (eval f a vars) c.0 (eval_is a vars c.1 good))
          (λ x late is well. (long_word (length x) is, well))
      eval_is (Strjoin a b) vars c good =
          two_texts (IsOf ty.Text) a b (λ x y. Has (va.Text (joined_text x y))) vars c.0 c.1
          (eval_is a vars c.2 good) (λ late well. eval_is b late c.3 well)
          (λ x y late well. (cut_is x y, well))

      pub keys_are : (keys : Typeds) (vars : Variables) → AreConsistent slots keys → AreTyped slots vars → EndsTyped slots Any (keys_of f keys vars)
      keys_are end vars c good = (tt, good)
      keys_are (more a rest) vars c good =
          one (IsOf (type_of a)) Any (eval f a vars) (λ x vars. with (keys_of f rest vars) (λ key. Has (part_of x ∷ key))) (eval_is a vars c.0 good)
          (λ x late is well. one Any Any (keys_of f rest late) (λ key. Has (part_of x ∷ key)) (keys_are rest late c.1 well) (λ key last any fine. (tt, fine)))
