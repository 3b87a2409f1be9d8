-- A change in place is the assignment of the operation.
use Rattle.std.proofs.Common.{◌≡◌, ℕ, List, Bool, true, false, if◌then◌else◌, Result, Ok, Err, refl}
use Rattle.std.proofs.Common.{sym, ap, ◌∙◌, subst}
use Rattle.d_values.specs.declared.arithmetic.OutOfZero.{OutOfZero}
use Rattle.d_values.specs.declared.int_type.IntType.{IntType}
use Rattle.d_values.specs.declared.int_type.DType.{DType}
use Rattle.d_values.specs.declared.int_type.DType.TheVariants as ty
use Rattle.d_values.specs.declared.key.KeyPart.{KeyPart}
use Rattle.d_values.specs.declared.value.Value.{Value}
use Rattle.d_values.specs.declared.value.Value.TheVariants as va
use Rattle.d_values.specs.Words.{narrow, operate}
use Rattle.firings.specs.declared.firing.Firing.{Firing}
use Rattle.d_types.specs.declared.typed.Operation.{Operation}
use Rattle.d_types.specs.declared.typed.Operation.TheVariants as op
use Rattle.d_types.specs.declared.typed.Variable.{Variable}
use Rattle.d_types.specs.Typed.{Typed, Read, Operate, Convert, Assign, Update, Typeds}
use Rattle.d_types.specs.Operators.{same_type, conversion_node}
use Rattle.d_types.specs.Storage.{Variables, word_of, value_of_variable}
use Rattle.d_types.specs.Expressions.{Outcome, Has, Faults, with, word_or_fault, integer}
use Rattle.d_types.specs.Expressions.{number_outcome}
use Rattle.d_types.specs.Expressions.{operation_of, works_in, word_as_type, assignment_outcome}
use Rattle.d_types.specs.Expressions.{update_outcome, eval, keys_of}
use Rattle.d_types.specs.Held.{IsOf, IsWord}
use Rattle.d_types.specs.Laws.{AreRepeatable, HoldsItsType, in_place, assigns_in, variables_after}
use Rattle.d_types.proofs.Consistent.{same_type_is}
use Rattle.d_types.proofs.Keeping.{keys_keep}
use Rattle.d_types.proofs.ValueTypes.{narrow_is, narrow_leaves}

-- ---- conversions

-- what there is, is a word of the type
abbrev pub HasWord : IntType → Outcome Value → Type 0
HasWord t (Has (va.Int w) vars) = IsWord t w
HasWord t (Has (va.Text bytes) vars) = ⊥
HasWord t (Faults vars) = Unit {0}

-- narrowed to its own type it stays
kept : (t : IntType) (o : Outcome Value) → HasWord t o → o ≡ with (number_outcome o) (λ w. Has (va.Int (narrow t w)))
kept t (Has (va.Int w) vars) h = ap (λ n. Has (va.Int n) vars) (sym (narrow_leaves t w h))
kept t (Has (va.Text bytes) vars) h = absurd h
kept t (Faults vars) h = refl

-- a conversion, or none where the types are the same
pub converts : (f : Firing) (from to : IntType) (z : Typed) (vars : Variables) → HasWord from (eval f z vars) →
    eval f (conversion_node from to z) vars ≡ with (number_outcome (eval f z vars)) (λ w. Has (va.Int (narrow to w)))
converts f from to z vars h = by (same_type from to) refl
  where
    by : (b : Bool) → same_type from to ≡ b → eval f (if b then z else Convert from to z) vars ≡ with (number_outcome (eval f z vars)) (λ w. Has (va.Int (narrow to w)))
    by true e = subst (λ (t : IntType). eval f z vars ≡ with (number_outcome (eval f z vars)) (λ w. Has (va.Int (narrow t w)))) (same_type_is from to e) (kept from (eval f z vars) h)
    by false e = refl

-- ---- operations

-- the operation's word, as an integer
result_is : (o : Operation) (x y : ℕ) (vars : Variables) → HasWord (works_in o) (integer (word_or_fault (operation_of o x y) vars))
result_is (op.Arithmetic o t) x y vars = by _
  where
    by : (b : Bool) → HasWord t (integer (word_or_fault (if b then Err (record {}) else Ok (narrow t (operate o t.signed x y))) vars))
    by true = tt
    by false = narrow_is t (operate o t.signed x y)
result_is (op.Shift o t) x y vars = narrow_is t _

operated_is : (o : Operation) (x : ℕ) (a : Outcome Value) → HasWord (works_in o) (with (number_outcome a) (λ y vars. integer (word_or_fault (operation_of o x y) vars)))
operated_is o x (Has v vars) = result_is o x (word_of v) vars
operated_is o x (Faults vars) = tt

-- ---- the change

-- what is assigned after a result
assigned_is : (t : IntType) (x : Variable) (key : List KeyPart) (r : Result ℕ OutOfZero) (vars : Variables) → x.holds ≡ ty.Int t →
    with (word_or_fault r vars) (update_outcome x key) ≡ with (with (number_outcome (integer (word_or_fault r vars))) (λ w. Has (va.Int (narrow t w)))) (assignment_outcome x key)
assigned_is t x key (Ok w) vars e = ap (λ (u : DType). assignment_outcome x key (va.Int (word_as_type u w)) vars) e
assigned_is t x key (Err z) vars e = refl

changed_is : (t : IntType) (o : Operation) (x : Variable) (key : List KeyPart) (old : ℕ) (a : Outcome Value) → x.holds ≡ ty.Int t →
    with (number_outcome a) (λ y after. with (word_or_fault (operation_of o old y) after) (update_outcome x key))
    ≡ with (with (number_outcome (with (number_outcome a) (λ y vars. integer (word_or_fault (operation_of o old y) vars)))) (λ w. Has (va.Int (narrow t w)))) (assignment_outcome x key)
changed_is t o x key old (Has v vars) e = assigned_is t x key (operation_of o old (word_of v)) vars e
changed_is t o x key old (Faults vars) e = refl

read_is : (t : IntType) (value : Value) (vars : Variables) → IsOf (ty.Int t) value → HasWord t (Has value vars)
read_is t (va.Int w) vars h = h
read_is t (va.Text bytes) vars h = absurd h

pub update_is_assignment : (f : Firing) (t : IntType) (o : Operation) (x : Variable) (keys : Typeds) (a : Typed) (vars : Variables) → x.holds ≡ ty.Int t →
    AreRepeatable f keys vars → HoldsItsType f x keys vars → eval f (Update o x keys a) vars ≡ eval f (Assign x keys (in_place o t x keys a)) vars
update_is_assignment f t o x keys a vars e again holds = by (keys_of f keys vars) refl
  where
    at : (key : List KeyPart) (after : Variables) → keys_of f keys after ≡ Has key after → IsOf x.holds (value_of_variable after x key) →
        with (number_outcome (eval f a after)) (λ y last. with (word_or_fault (operation_of o (narrow (works_in o) (word_of (value_of_variable after x key))) y) last) (update_outcome x key))
        ≡ with (eval f (in_place o t x keys a) after) (assignment_outcome x key)
    at key after same is =
        let value = value_of_variable after x key in
        let old = narrow (works_in o) (word_of value) in
        let read : eval f (Read x keys) after ≡ Has value after = ap (λ (k : Outcome (List KeyPart)). with k (λ key vars. Has (value_of_variable vars x key) vars)) same in
        let word : HasWord t (eval f (Read x keys) after) = subst (HasWord t) (sym read) (read_is t value after (subst (λ u. IsOf u value) e is)) in
        let left : eval f (conversion_node t (works_in o) (Read x keys)) after ≡ Has (va.Int old) after =
        converts f t (works_in o) (Read x keys) after word ∙ ap (λ (l : Outcome Value). with (number_outcome l) (λ w. Has (va.Int (narrow (works_in o) w)))) read
        in
        let both : eval f (Operate o (conversion_node t (works_in o) (Read x keys)) a) after ≡ with (number_outcome (eval f a after)) (λ y vars. integer (word_or_fault (operation_of o old y) vars)) =
        ap (λ (l : Outcome Value). with (number_outcome l) (λ p vars. with (number_outcome (eval f a vars)) (λ y vars. integer (word_or_fault (operation_of o p y) vars)))) left
        in
        let fine : HasWord (works_in o) (eval f (Operate o (conversion_node t (works_in o) (Read x keys)) a) after) = subst (HasWord (works_in o)) (sym both) (operated_is o old (eval f a after)) in
        let all = converts f (works_in o) t (Operate o (conversion_node t (works_in o) (Read x keys)) a) after fine in
        changed_is t o x key old (eval f a after) e
        ∙ sym (ap (λ (l : Outcome Value). with l (assignment_outcome x key)) (all ∙ ap (λ (l : Outcome Value). with (number_outcome l) (λ w. Has (va.Int (narrow t w)))) both))

    by : (k : Outcome (List KeyPart)) → keys_of f keys vars ≡ k →
        with k (λ key vars. with (number_outcome (eval f a vars)) (λ y after. with (word_or_fault (operation_of o (narrow (works_in o) (word_of (value_of_variable vars x key))) y) after) (update_outcome x key)))
        ≡ with k (λ key vars. with (eval f (in_place o t x keys a) vars) (assignment_outcome x key))
    by (Has key after) h = at key after (again key after h) (holds key after h)
    by (Faults after) h = refl

-- ---- keys

-- keys in which nothing is assigned leave the variables as they were
pub repeatable : (f : Firing) (keys : Typeds) (vars : Variables) → assigns_in keys ≡ false → AreRepeatable f keys vars
repeatable f keys vars none key after is =
    let same : after ≡ vars = sym (ap (λ (o : Outcome (List KeyPart)). variables_after o) is) ∙ keys_keep f keys vars none in
    subst (λ (v : Variables). keys_of f keys v ≡ Has key after) (sym same) is
