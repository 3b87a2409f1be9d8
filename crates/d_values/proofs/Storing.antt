-- What is set, before and after.
use Rattle.std.specs.Prelude.{◌≡◌, ℕ, zero, suc, Bool, true, false, ◌&&◌, if◌then◌else◌, List, []}
use Rattle.std.specs.Prelude.{◌∷◌, Option, None, Some, unwrap_or, slice_get, Result, Ok}
use Rattle.std.specs.Prelude.{Err, OnOk, OnErr}
use Rattle.std.proofs.Common.{refl, sym, ap, ◌∙◌, true≢false}
use Rattle.std.proofs.lemmas.Bool.{and_parts}
use Rattle.std.specs.Map.{lookup}
use Rattle.indexmap.specs.Layout.{set_value_at}
use Rattle.d_values.specs.Vocabulary.{KeyPart, Kind, Value, Var}
use Rattle.d_values.specs.declared.value.Kind.TheVariants as k
use Rattle.d_values.specs.declared.value.Value.TheVariants.{Int, Text}
use Rattle.std.proofs.lemmas.Bool.Decides.{Decides-eqb}
use Rattle.d_values.specs.declared.held.Held.{Held}
use Rattle.d_values.specs.Keys.{same_key}
use Rattle.d_values.specs.Variables.{same_var, same_var_decides}
use Rattle.d_values.specs.Stores.{Locals, Own, kind_of, blank, is_blank, value_to_keep, local_entry}
use Rattle.d_values.specs.Stores.{local_of, AreLocals, with_local, element, own_entry, own_of}
use Rattle.d_values.specs.Stores.{AreOwn, with_own}
use Rattle.d_values.specs.Tables.{elements_of, pairs_of}
use Rattle.d_values.specs.Steps.Tables.{value_in, value_at, Sets}

-- what an entry reads as is of the variable's kind
kind_read : (kind : Kind) (o : Option Value) → ((value : Value) → o ≡ Some value → kind_of value ≡ kind) → kind_of (unwrap_or o (blank kind)) ≡ kind
kind_read k.Number None are = refl
kind_read k.Text None are = refl
kind_read kind (Some value) are = are value refl

pub kind_of-local_of : (locals : Locals) (var : Var) → AreLocals locals → kind_of (local_of locals var) ≡ var.kind
kind_of-local_of locals var are = kind_read var.kind (local_entry locals var) (λ value e. (are var value e).1)

pub kind_of-own_of : (own : Own) (var : Var) (key : List KeyPart) → AreOwn own → kind_of (own_of own var key) ≡ var.kind
kind_of-own_of own var key are = kind_read var.kind (own_entry own var key) (λ value e. (are var key value e).1)

-- what is kept is no blank, and the value itself
kept_some : (value x : Value) → value_to_keep value ≡ Some x → (is_blank x ≡ false) × (x ≡ value)
kept_some value x e = by (is_blank value) refl e
  where
    by : (b : Bool) → is_blank value ≡ b → (if b then None else Some value) ≡ Some x → (is_blank x ≡ false) × (x ≡ value)
    by true blank f = absurd cc
    by false kept f = let same : x ≡ value = cc in (ap is_blank same ∙ kept, same)

-- all that one variable holds, in another form
pub holds_by : (old : List (Var × Held)) (var : Var) (key : List KeyPart) (value : Option Value) (held was is : Held) → lookup (same_var var) old ≡ Some held → was ≡ held
    → ((k : List KeyPart) → lookup (same_key k) (elements_of is) ≡ (if same_key key k then value else lookup (same_key k) (elements_of was)))
    → (k : List KeyPart) → lookup (same_key k) (elements_of is) ≡ (if same_key key k then value else value_at old var k)
holds_by old var key value held was is found same holds k =
    holds k ∙ ap (λ h. if same_key key k then value else lookup (same_key k) (elements_of h)) same
    ∙ ap (λ o. if same_key key k then value else value_in o k) (sym found)

blank_is : (value : Value) → is_blank value ≡ true → value ≡ blank (kind_of value)
blank_is (Int n) e = ap Int ((Decides-eqb n 0).0 e)
blank_is (Text []) e = refl
blank_is (Text (b ∷ bytes)) e = absurd (true≢false (sym e))

-- what a set variable reads is what was set
reads_kept : (value : Value) (kind : Kind) → kind_of value ≡ kind → unwrap_or (value_to_keep value) (blank kind) ≡ value
reads_kept value kind e = elim (is_blank value) as (λ b. is_blank value ≡ b → unwrap_or (if b then None else Some value) (blank kind) ≡ value) [
  | true ↦ λ b. ap blank (sym e) ∙ sym (blank_is value b)
  | false ↦ λ b. refl
] refl

are_one : (var v : Var) (value x : Value) (o : Option Value) → kind_of value ≡ var.kind
    → ((y : Value) → o ≡ Some y → (is_blank y ≡ false) × (kind_of y ≡ v.kind))
    → (b : Bool) → (b ≡ true → var ≡ v) → (if b then value_to_keep value else o) ≡ Some x → (is_blank x ≡ false) × (kind_of x ≡ v.kind)
are_one var v value x o kind are true same e =
    let k = kept_some value x e in
    (k.0, ap kind_of k.1 ∙ kind ∙ ap (λ w. w.kind) (same refl))
are_one var v value x o kind are false same e = are x e

pub AreLocals-set : (old new : Locals) (var : Var) (value : Value) → AreLocals old → kind_of value ≡ var.kind
    → ((v : Var) → local_entry new v ≡ with_local (local_entry old) var (value_to_keep value) v) → AreLocals new
AreLocals-set old new var value are kind sets v x e =
    are_one var v value x (local_entry old v) kind (are v) (same_var var v) (same_var_decides var v).0 (sym (sets v) ∙ e)

-- ---- variables of a thread

-- the tests of a variable and of a key, together
both_same : (var v : Var) (key k : List KeyPart) → same_var var v && same_key key k ≡ true → var ≡ v
both_same var v key k e = (same_var_decides var v).0 (and_parts _ _ e).0

pub AreOwn-set : (old new : Own) (var : Var) (key : List KeyPart) (value : Value) → AreOwn old → kind_of value ≡ var.kind
    → ((v : Var) (k : List KeyPart) → own_entry new v k ≡ with_own (own_entry old) var key (value_to_keep value) v k) → AreOwn new
AreOwn-set old new var key value are kind sets v k x e =
    are_one var v value x (own_entry old v k) kind (are v k) (same_var var v && same_key key k) (both_same var v key k) (sym (sets v k) ∙ e)

read_one : (var v : Var) (value : Value) (o : Option Value) → kind_of value ≡ var.kind → (b : Bool) → (b ≡ true → var ≡ v)
    → unwrap_or (if b then value_to_keep value else o) (blank v.kind) ≡ (if b then value else unwrap_or o (blank v.kind))
read_one var v value o kind true same = reads_kept value v.kind (kind ∙ ap (λ w. w.kind) (same refl))
read_one var v value o kind false same = refl

pub own_of-set : (old new : Own) (var : Var) (key : List KeyPart) (value : Value) → kind_of value ≡ var.kind
    → ((v : Var) (k : List KeyPart) → own_entry new v k ≡ with_own (own_entry old) var key (value_to_keep value) v k)
    → own_of new ≡ with_own (own_of old) var key value
own_of-set old new var key value kind sets i v k =
    (ap (λ o. unwrap_or o (blank v.kind)) (sets v k)
    ∙ read_one var v value (own_entry old v k) kind (same_var var v && same_key key k) (both_same var v key k)) i

pub own_entry-pairs_of : (variables : List (Var × Held)) (v : Var) (k : List KeyPart) → own_entry (pairs_of variables) v k ≡ value_at variables v k
own_entry-pairs_of [] v k = refl
own_entry-pairs_of (p ∷ variables) v k =
    elim (same_var v p.0) as (λ b. element (if b then Some (elements_of p.1) else lookup (same_var v) (pairs_of variables)) k ≡ value_in (if b then Some p.1 else lookup (same_var v) variables) k) [
      | true ↦ refl
      | false ↦ own_entry-pairs_of variables v k
    ]

pub pairs_sets : (old new : List (Var × Held)) (var : Var) (key : List KeyPart) (value : Option Value) → Sets old new var key value
    → (v : Var) (k : List KeyPart) → own_entry (pairs_of new) v k ≡ with_own (own_entry (pairs_of old)) var key value v k
pairs_sets old new var key value sets v k =
    own_entry-pairs_of new v k ∙ sets v k
    ∙ ap (λ o. if same_var var v && same_key key k then value else o) (sym (own_entry-pairs_of old v k))

-- one that holds the same, in the place of another
pub pairs_of-set_value_at : (variables : List (Var × Held)) (i : ℕ) (var : Var) (was is : Held) → slice_get variables i ≡ Some (var, was)
    → elements_of is ≡ elements_of was → pairs_of (set_value_at variables i is) ≡ pairs_of variables
pairs_of-set_value_at [] i var was is there same = refl
pairs_of-set_value_at (p ∷ variables) zero var was is there same =
    let one : p ≡ (var, was) = cc in
    ap (λ es. (p.0, es) ∷ pairs_of variables) (same ∙ ap (λ q. elements_of q.1) (sym one))
pairs_of-set_value_at (p ∷ variables) (suc i) var was is there same = ap (λ ps. (p.0, elements_of p.1) ∷ ps) (pairs_of-set_value_at variables i var was is there same)

-- what one variable holds became this
pub sets_by : (old new : List (Var × Held)) (var : Var) (key : List KeyPart) (value : Option Value) (is : Held)
    → ((v : Var) → lookup (same_var v) new ≡ (if same_var var v then Some is else lookup (same_var v) old))
    → ((k : List KeyPart) → lookup (same_key k) (elements_of is) ≡ (if same_key key k then value else value_at old var k))
    → Sets old new var key value
sets_by old new var key value is puts holds v k =
    ap (λ o. value_in o k) (puts v) ∙ chosen (same_var var v) (same_var_decides var v).0
  where
    chosen : (b : Bool) → (b ≡ true → var ≡ v)
        → value_in (if b then Some is else lookup (same_var v) old) k ≡ (if b && same_key key k then value else value_at old v k)
    chosen true same = holds k ∙ ap (λ w. if same_key key k then value else value_at old w k) (same refl)
    chosen false other = refl

-- ---- by whether memory was refused

pub on_either : {X E P Q R : Type 0} (r : Result X E) → OnOk r P → OnErr r Q → (P → R) → (Q → R) → R
on_either (Ok v) p q f g = f p
on_either (Err e) p q f g = g q
