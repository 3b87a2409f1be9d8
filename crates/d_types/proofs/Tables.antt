-- A table in the code as a list of rows.
use Rattle.std.proofs.Common.{◌≡◌, ℕ, zero, suc, ◌+◌, ◌<◌, ◌≤◌, List, [], ◌∷◌, ◌++◌, length, drop}
use Rattle.std.proofs.Common.{get_or, slice_set, true, false, Option, Some, None, refl, sym, ap, ◌∙◌, arith}
use Rattle.std.proofs.Common.{add-one}
use Rattle.std.proofs.Math.Seq.{drop-cons}
use Rattle.std.specs.Option.{option_map_or}
use denote.Enum.Bare.{sameb}
use Rattle.d_values.specs.contracts.value.Kind as kind
use Rattle.d_values.specs.declared.int_type.DType.{DType}
use Rattle.d_values.specs.declared.value.Kind.{Kind}
use Rattle.d_values.specs.declared.value.Kind.TheVariants as k
use Rattle.d_types.specs.declared.variables.Entry.{Entry}
use Rattle.d_types.specs.Typed.{Typeds, end, more, type_of}
use Rattle.d_types.specs.Variables.{Rows, type_at, keys_at, kinds_of_typed}
use Rattle.d_types.specs.Steps.Variables.{row_of_entry, rows_of_entries, keys_fit, fit}
use Rattle.d_types.specs.Variables.{set_type, kind_of_type}
use Rattle.d_types.proofs.Bounds.{both_true}

pub front : {A : Type 0} (xs : List A) (n : ℕ) (x : A) → n < length xs → x ≡ get_or xs n x → drop n xs ≡ x ∷ drop (n + 1) xs
front xs n x h e = rw add-one (drop-cons xs n x h ∙ ap (λ y. y ∷ drop (suc n) xs) (sym e))

pub type_at_within : (es : List Entry) (n : ℕ) (e : Entry) → n < length es → e ≡ get_or es n e → type_at (rows_of_entries es) n ≡ e.holds
type_at_within [] n e h same = absurd (omega arith)
type_at_within (x ∷ es) zero e h same = ap (λ (y : Entry). y.holds) (sym same)
type_at_within (x ∷ es) (suc n) e h same = type_at_within es n e (omega arith) same

pub type_at_past : (es : List Entry) (n : ℕ) → length es ≤ n → type_at (rows_of_entries es) n ≡ None
type_at_past [] n h = refl
type_at_past (x ∷ es) zero h = absurd (omega arith)
type_at_past (x ∷ es) (suc n) h = type_at_past es n (omega arith)

pub keys_fit_within : (es : List Entry) (n : ℕ) (e : Entry) (keys : Typeds) → n < length es → e ≡ get_or es n e →
    keys_fit (rows_of_entries es) n keys ≡ fit e.keys.items keys
keys_fit_within [] n e keys h same = absurd (omega arith)
keys_fit_within (x ∷ es) zero e keys h same = ap (λ (y : Entry). fit y.keys.items keys) (sym same)
keys_fit_within (x ∷ es) (suc n) e keys h same = keys_fit_within es n e keys (omega arith) same

pub keys_fit_past : (es : List Entry) (n : ℕ) (keys : Typeds) → length es ≤ n → keys_fit (rows_of_entries es) n keys ≡ false
keys_fit_past [] n keys h = refl
keys_fit_past (x ∷ es) zero keys h = absurd (omega arith)
keys_fit_past (x ∷ es) (suc n) keys h = keys_fit_past es n keys (omega arith)

pub set_type_within : (es : List Entry) (n : ℕ) (e : Entry) (t : DType) → n < length es →
    rows_of_entries (slice_set es n (record { space = (get_or es n e).space; name = (get_or es n e).name; keys = (get_or es n e).keys; holds = Some t })) ≡ set_type n t (rows_of_entries es)
set_type_within [] n e t h = absurd (omega arith)
set_type_within (x ∷ es) zero e t h = refl
set_type_within (x ∷ es) (suc n) e t h = ap (λ (rs : Rows). row_of_entry x ∷ rs) (set_type_within es n e t (omega arith))

pub set_type_past : (es : List Entry) (n : ℕ) (t : DType) → length es ≤ n → set_type n t (rows_of_entries es) ≡ rows_of_entries es
set_type_past [] n t h = refl
set_type_past (x ∷ es) zero t h = absurd (omega arith)
set_type_past (x ∷ es) (suc n) t h = ap (λ (rs : Rows). row_of_entry x ∷ rs) (set_type_past es n t (omega arith))

pub rows_length : (es : List Entry) → length (rows_of_entries es) ≡ length es
rows_length [] = refl
rows_length (x ∷ xs) = let e : length (rows_of_entries xs) ≡ length xs = rows_length xs in omega arith

pub rows_push : (es : List Entry) (e : Entry) → rows_of_entries (es ++ e ∷ []) ≡ rows_of_entries es ++ row_of_entry e ∷ []
rows_push [] e = refl
rows_push (x ∷ es) e = ap (λ (rs : Rows). row_of_entry x ∷ rs) (rows_push es e)

-- ---- whether keys fit

own_kind : (a : Kind) → sameb kind.the_type a a ≡ true
own_kind k.Number = refl
own_kind k.Text = refl

kind_is : (a b : Kind) → sameb kind.the_type a b ≡ true → b ≡ a
kind_is k.Number k.Number e = refl
kind_is k.Number k.Text e = cc
kind_is k.Text k.Number e = cc
kind_is k.Text k.Text e = refl

own_kinds : (keys : Typeds) → fit (kinds_of_typed keys) keys ≡ true
own_kinds end = refl
own_kinds (more x rest) = rw (own_kind (kind_of_type (type_of x))) (own_kinds rest)

pub kinds_are : (kinds : List Kind) (keys : Typeds) → fit kinds keys ≡ true → kinds ≡ kinds_of_typed keys
kinds_are [] end e = refl
kinds_are [] (more x rest) e = cc
kinds_are (a ∷ kinds) end e = cc
kinds_are (a ∷ kinds) (more x rest) e =
    let both = both_true (sameb kind.the_type (kind_of_type (type_of x)) a) (fit kinds rest) e in
    let first = kind_is (kind_of_type (type_of x)) a both.0 in
    let others = kinds_are kinds rest both.1 in
    cc

pub same_kinds : (kinds : List Kind) (keys : Typeds) → kinds ≡ kinds_of_typed keys → fit kinds keys ≡ true
same_kinds kinds keys e = rw e (own_kinds keys)

pub keys_are : (rows : Rows) (slot : ℕ) (keys : Typeds) → keys_fit rows slot keys ≡ true → keys_at rows slot ≡ Some (kinds_of_typed keys)
keys_are rows slot keys e = of (keys_at rows slot) e
  where
    of : (o : Option (List Kind)) → option_map_or (λ kinds. fit kinds keys) o false ≡ true → o ≡ Some (kinds_of_typed keys)
    of None e = cc
    of (Some kinds) e = ap (λ (all : List Kind). Some all) (kinds_are kinds keys e)

pub own_keys : (rows : Rows) (slot : ℕ) (keys : Typeds) → keys_at rows slot ≡ Some (kinds_of_typed keys) → keys_fit rows slot keys ≡ true
own_keys rows slot keys e = rw e (own_kinds keys)
