-- A frame that has what is known.
use Rattle.std.specs.Prelude.{◌≡◌, ◌≢◌, ◌<◌, ℕ, zero, suc, false, List, [], ◌∷◌, length, Option}
use Rattle.std.specs.Prelude.{Some, None, slice_index_or, slice_set}
use Rattle.std.proofs.Common.{refl, sym, ap, ◌∙◌, subst, ⊎_elim, arith}
use Rattle.std.proofs.lemmas.Bool.{cases_eq, or_parts}
use Rattle.std.proofs.lemmas.List.{get_or-set_same, get_or-set_other}
use Rattle.dif_machine.specs.Vocabulary.{kind_of, KeyPart, Kind, Value, Reg, Comparison}
use Rattle.d_values.specs.declared.value.Kind.TheVariants.{Number, Text}
use Rattle.d_values.specs.declared.value.Value.TheVariants as va
use Rattle.dif_validate.specs.declared.row.Asks.TheVariants.{Any, One, Two}
use Rattle.dif_validate.specs.declared.shape.Shape.{Shape}
use Rattle.dif_validate.specs.Asks.{finds_other, finds_unset}
use Rattle.dif_validate.specs.Leaves.{with_register, shape_compared, shape_with_tuple}
use Rattle.dif_validate.specs.Registers.{register_number, at, put}
use Rattle.dif_validate.specs.Shapes.{is_other, is_unset}
use Rattle.dif_validate.proofs.Flowing.{Within}
use Rattle.dif_validate.proofs.Writes.{number_below, put_set, put_zero, put_long}
use Rattle.dif_machine.specs.Frames.{Frame}
use Rattle.dif_machine.specs.Frames as frames
use Rattle.dif_machine.specs.Kinds.{kinds_of}
use Rattle.dif_machine.specs.Known.{Holds, FitsShape}
use Rattle.dif_machine.specs.Semantics.{Next, on, on_number, on_text, on_kind}

pub fits_within : (u t : Shape) (f : Frame) → Within u t → FitsShape t f → FitsShape u f
fits_within u t f w h = record {
  registers = λ r k e. h.registers r k (w.registers r k e);
  compared = λ e. h.compared (w.compared e);
  tuple = λ ks e. h.tuple ks (w.tuple ks e);
  long = h.long;
}

-- ---- writes

pub set_found : {A : Type 0} (xs : List (Option A)) (n : ℕ) (x : Option A) (y : A) → slice_index_or (slice_set xs n x) n None ≡ Some y → x ≡ Some y
set_found [] n x y h = cc
set_found (z ∷ xs) zero x y h = h
set_found (z ∷ xs) (suc n) x y h = set_found xs n x y h

-- what is known of a register after a write holds
put_fits : (ks : List (Option Kind)) (vs : List (Option Value)) (d : Reg) (k : Option Kind) (v : Value) → length vs ≡ 8
    → ((r : Reg) (j : Kind) → at ks r ≡ Some j → Holds (at vs r) j) → ((j : Kind) → k ≡ Some j → kind_of v ≡ j)
    → (r : Reg) (j : Kind) → at (put ks d k) r ≡ Some j → Holds (at (put vs d (Some v)) r) j
put_fits ks vs d k v long old new r j h =
    ⊎_elim
    (λ (z : register_number d ≡ 0).
    subst (λ xs. Holds (at xs r) j) (sym (put_zero vs d (Some v) z)) (old r j (ap (λ xs. at xs r) (sym (put_zero ks d k z)) ∙ h)))
    (λ (nz : register_number d ≡ 0 → ⊥).
    let h' : slice_index_or (slice_set ks (register_number d) k) (register_number r) None ≡ Some j = ap (λ xs. at xs r) (sym (put_set ks d k nz)) ∙ h in
    subst (λ xs. Holds (at xs r) j) (sym (put_set vs d (Some v) nz))
    (⊎_elim
    (λ (same : register_number r ≡ register_number d).
    let inside : register_number d < length vs = omega (arith, number_below d) in
    let found : k ≡ Some j = set_found ks (register_number d) k j (ap (λ n. slice_index_or (slice_set ks (register_number d) k) n None) (sym same) ∙ h') in
    record { value = v; is = ap (λ n. slice_index_or (slice_set vs (register_number d) (Some v)) n None) same ∙ get_or-set_same vs (register_number d) (Some v) None inside; kind = new j found })
    (λ (other : register_number r ≡ register_number d → ⊥).
    let was = old r j (sym (get_or-set_other ks (register_number d) (register_number r) k None other) ∙ h') in
    record { value = was.value; is = get_or-set_other vs (register_number d) (register_number r) (Some v) None other ∙ was.is; kind = was.kind })
    (cases_eq (register_number r) (register_number d))))
    (cases_eq (register_number d) 0)

pub fits_value : (s : Shape) (f : Frame) (d : Reg) (k : Option Kind) (v : Value) → FitsShape s f → ((j : Kind) → k ≡ Some j → kind_of v ≡ j) → FitsShape (with_register s d k) (frames.with_value f d v)
fits_value s f d k v h is = record {
  registers = put_fits s.registers f.registers d k v h.long h.registers is;
  compared = h.compared;
  tuple = h.tuple;
  long = put_long f.registers d (Some v) ∙ h.long;
}

pub fits_index : (s : Shape) (f : Frame) (pc : ℕ) → FitsShape s f → FitsShape s (frames.at_index f pc)
fits_index s f pc h = record { registers = h.registers; compared = h.compared; tuple = h.tuple; long = h.long }

pub fits_comparison : (s : Shape) (f : Frame) (known : Comparison) → FitsShape s f → FitsShape (shape_compared s) (frames.with_comparison f known)
fits_comparison s f known h = record { registers = h.registers; compared = λ e n. cc; tuple = h.tuple; long = h.long }

pub fits_tuple : (s : Shape) (f : Frame) (o : Option (List Kind)) (parts : List KeyPart) → FitsShape s f → ((ks : List Kind) → o ≡ Some ks → kinds_of parts ≡ ks) → FitsShape (shape_with_tuple s o) (frames.with_tuple f parts)
fits_tuple s f o parts h is = record { registers = h.registers; compared = h.compared; tuple = is; long = h.long }

-- ---- what an instruction asks for is there

other_or_unset : (k : Kind) (known : Option Kind) → is_other k known ≡ false → is_unset known ≡ false → known ≡ Some k
other_or_unset k known a b = grind arith

pub one : (k : Kind) (a : Reg) (s : Shape) → finds_other (One k a) s ≡ false → finds_unset (One k a) s ≡ false → at s.registers a ≡ Some k
one k a s x y = other_or_unset k (at s.registers a) x y

pub two : (k : Kind) (a b : Reg) (s : Shape) → finds_other (Two k a b) s ≡ false → finds_unset (Two k a b) s ≡ false → (at s.registers a ≡ Some k) × (at s.registers b ≡ Some k)
two k a b s x y =
    let p = or_parts (is_other k (at s.registers a)) _ x in
    let q = or_parts (is_unset (at s.registers a)) _ y in
    (other_or_unset k (at s.registers a) p.0 q.0, other_or_unset k (at s.registers b) p.1 q.1)

pub some_there : {A : Type 0} (o : Option A) → o ≢ None → (x : A) × (o ≡ Some x)
some_there None h = absurd (h refl)
some_there (Some x) h = (x, refl)

pub any : (a : Reg) (s : Shape) → finds_unset (Any a) s ≡ false → (k : Kind) × (at s.registers a ≡ Some k)
any a s h = some_there (at s.registers a) (λ none. let set = ap is_unset none in cc)

module _ (P : Next → Type 0) where
  pub on_there : {A : Type 0} (o : Option A) (x : A) (go : A → Next) → o ≡ Some x → P (go x) → P (on o go)
  on_there o x go e h = subst (λ o. P (on o go)) (sym e) h

  by_number : (v : Value) (go : ℕ → Next) → kind_of v ≡ Number → ((n : ℕ) → P (go n)) → P (on_number (Some v) go)
  by_number (va.Int n) go e h = h n
  by_number (va.Text bytes) go e h = cc

  by_text : (v : Value) (go : List ℕ → Next) → kind_of v ≡ Text → ((bytes : List ℕ) → P (go bytes)) → P (on_text (Some v) go)
  by_text (va.Int n) go e h = cc
  by_text (va.Text bytes) go e h = h bytes

  pub number_there : (o : Option Value) (go : ℕ → Next) → Holds o Number → ((n : ℕ) → P (go n)) → P (on_number o go)
  number_there o go has h = subst (λ o. P (on_number o go)) (sym has.is) (by_number has.value go has.kind h)

  pub text_there : (o : Option Value) (go : List ℕ → Next) → Holds o Text → ((bytes : List ℕ) → P (go bytes)) → P (on_text o go)
  text_there o go has h = subst (λ o. P (on_text o go)) (sym has.is) (by_text has.value go has.kind h)

  pub kind_there : (k : Kind) (o : Option Value) (go : Value → Next) → Holds o k → ((v : Value) → kind_of v ≡ k → P (go v)) → P (on_kind k o go)
  kind_there Number o go has h = number_there o (λ n. go (va.Int n)) has (λ n. h (va.Int n) refl)
  kind_there Text o go has h = text_there o (λ bytes. go (va.Text bytes)) has (λ bytes. h (va.Text bytes) refl)
