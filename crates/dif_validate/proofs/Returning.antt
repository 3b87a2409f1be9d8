-- A valid object returns a kind.
use Rattle.std.specs.Prelude.{not, ◌≡◌, ◌≤◌, ◌<◌, ℕ, zero, suc, ◌+◌, ◌-◌, true, false, List, []}
use Rattle.std.specs.Prelude.{◌∷◌, length, Option, Some, None, slice_get}
use Rattle.std.proofs.Common.{refl, sym, ap, ◌∙◌, subst, ⊎_elim, inl, inr, ◌⊎◌, arith}
use Rattle.std.proofs.lemmas.Bool.{cases_lt, cases_Bool, not-false}
use Rattle.std.proofs.lemmas.Option.{slice_get_cases, slice_get_within}
use Rattle.std.specs.Option.{option_or}
use Rattle.d_values.specs.declared.value.Kind.{Kind}
use Rattle.dif_validate.specs.declared.instruction.Instr.{Instr}
use Rattle.dif_validate.specs.declared.instruction.Instr.TheVariants.{Ba, Ret}
use Rattle.dif_validate.specs.declared.register.Reg.{Reg}
use Rattle.dif_validate.specs.declared.shape.Shape.{Shape}
use Rattle.dif_validate.specs.Flow.{falls, jump_target, before}
use Rattle.dif_validate.specs.Objects.{Object}
use Rattle.dif_validate.specs.Registers.{at}
use Rattle.dif_validate.specs.Returns.{kind_at_return, first_kind_before, return_kind}
use Rattle.dif_validate.specs.Faults.{fault_at_index, returns_other}
use Rattle.dif_validate.specs.Shapes.{is_other, is_same, is_unset, first_shape}
use Rattle.dif_validate.specs.Validity.{is_return, is_closed, IsValid}
use Rattle.dif_validate.proofs.Faultless.{IsFaultless, faultless, goes_on, stays_in}
use Rattle.dif_validate.proofs.Faultless.{returns_no_other}
use Rattle.dif_validate.proofs.Flowing.{flows_next, flows_target, same_is}

-- an instruction that isn't followed by the next one jumps or returns
halts : (i : Instr) → falls i ≡ false → ((to : ℕ) × (jump_target i ≡ Some to)) ⊎ ((a : Reg) × (i ≡ Ret a))
halts (Ba to) h = inl (to, refl)
halts (Ret a) h = inr (a, refl)
halts _ h = cc

falls_on : (i : Instr) → falls i ≡ true → is_return (Some i) ≡ true → ⊥
falls_on (Ret a) h e = cc
falls_on _ h e = cc

-- the next index is inside
pub next_inside : (o : Object) (pc : ℕ) (i : Instr) → is_closed o.code ≡ true → slice_get o.code pc ≡ Some i → falls i ≡ true → pc + 1 < length o.code
next_inside o pc i closed there on =
    let within : pc < length o.code = slice_get_within o.code pc i there in
    ⊎_elim
    (λ less. less)
    (λ more.
    let last : length o.code - 1 ≡ pc = omega arith in
    absurd (falls_on i on (ap is_return (sym there) ∙ ap (λ n. is_return (slice_get o.code n)) (sym last) ∙ closed)))
    (cases_lt (pc + 1) (length o.code))

set_is : (known : Option Kind) → is_unset known ≡ false → (k : Kind) × (known ≡ Some k)
set_is None h = cc
set_is (Some k) h = (k, refl)

-- one that is found stays found
first_some : (a b : Option Kind) (k : Kind) → b ≡ Some k → (j : Kind) × (option_or a b ≡ Some j)
first_some None b k h = (k, h)
first_some (Some x) b k h = (x, refl)

first_kept : (a b : Option Kind) → ((j : Kind) × (a ≡ Some j)) → (j : Kind) × (option_or a b ≡ Some j)
first_kept None b h = absurd (let e = h.1 in cc)
first_kept (Some x) b h = (x, refl)

found : (code : List Instr) (n q : ℕ) (k : Kind) → q < n → kind_at_return (slice_get code q) (before code q) ≡ Some k → (j : Kind) × (first_kind_before code n ≡ Some j)
found code zero q k less h = absurd (omega arith)
found code (suc n) q k less h =
    ⊎_elim
    (λ below. first_kept (first_kind_before code n) (kind_at_return (slice_get code n) (before code n)) (found code n q k below h))
    (λ above.
    let same : q ≡ n = omega arith in
    first_some (first_kind_before code n) (kind_at_return (slice_get code n) (before code n)) k (subst (λ m. kind_at_return (slice_get code m) (before code m) ≡ Some k) same h))
    (cases_lt q n)

module _ (o : Object) (valid : IsValid o) where
  abbrev Kinded : Type 0
  Kinded = (k : Kind) × (return_kind o ≡ Some k)

  -- a reached instruction, where it is known of all later ones
  module _ (pc : ℕ) (s : Shape) (inside : pc < length o.code) (is : before o.code pc ≡ Some s) (again : (q : ℕ) (t : Shape) → pc < q → q < length o.code → before o.code q ≡ Some t → Kinded) where
    on : (i : Instr) → slice_get o.code pc ≡ Some i → falls i ≡ true → Kinded
    on i there f =
        let has = flows_next o.code pc i s there is (pc + 1) (omega arith) f in
        again (pc + 1) has.shape (omega arith) (next_inside o pc i valid.closed there f) has.is

    off : (i : Instr) → slice_get o.code pc ≡ Some i → IsFaultless o pc i s → (((to : ℕ) × (jump_target i ≡ Some to)) ⊎ ((a : Reg) × (i ≡ Ret a))) → Kinded
    off i there fine (inl t) =
        let less = goes_on i pc t.0 fine.forward t.1 in
        let has = flows_target o.code pc i s there is t.0 t.0 less t.1 in
        again t.0 has.shape less (stays_in i (length o.code) t.0 fine.inside t.1) has.is
    off i there fine (inr a) =
        let set = set_is (at s.registers a.0) (rw a.1 at fine.fine.set) in
        found o.code (length o.code) pc set.0 inside
        (ap (λ x. kind_at_return x (before o.code pc)) (there ∙ ap Some a.1) ∙ ap (kind_at_return (Some (Ret a.0))) is ∙ set.1)

    by : (i : Instr) → slice_get o.code pc ≡ Some i → IsFaultless o pc i s → Kinded
    by i there fine = ⊎_elim (on i there) (λ f. off i there fine (halts i f)) (cases_Bool (falls i))

    here : Kinded
    here =
        ⊎_elim
        (λ a. by a.0 a.2 (faultless o pc a.0 s (valid.each pc) a.2 is))
        (λ b. absurd (omega (arith, b.0)))
        (slice_get_cases o.code pc).1

  from : (fuel pc : ℕ) (s : Shape) → length o.code ≤ pc + fuel → pc < length o.code → before o.code pc ≡ Some s → Kinded
  from zero pc s enough inside is = absurd (omega arith)
  from (suc fuel) pc s enough inside is = here pc s inside is (λ q t less within reached. from fuel q t (omega arith) within reached)

  pub some_kind : 0 < length o.code → Kinded
  some_kind inside = from (length o.code) 0 first_shape (omega arith) inside refl

pub closed_inside : (code : List Instr) → is_closed code ≡ true → 0 < length code
closed_inside [] h = cc
closed_inside (i ∷ code) h = omega arith

-- ---- and each reached `ret` returns it

kind_kept : (code : List Instr) (m n : ℕ) (k : Kind) → first_kind_before code m ≡ Some k → m ≤ n → first_kind_before code n ≡ Some k
kind_kept code m zero k h le = let same : m ≡ 0 = omega (arith, le) in subst (λ i. first_kind_before code i ≡ Some k) same h
kind_kept code m (suc n) k h le =
    ⊎_elim
    (λ below. ap (λ x. option_or x (kind_at_return (slice_get code n) (before code n))) (kind_kept code m n k h (omega (arith, below))))
    (λ above. let same : m ≡ suc n = omega (arith, le, above) in subst (λ i. first_kind_before code i ≡ Some k) same h)
    (cases_lt m (suc n))

agrees : (first : Option Kind) (s : Shape) (a : Reg) (k : Kind) → at s.registers a ≡ Some k → returns_other (Ret a) first s ≡ false → option_or first (at s.registers a) ≡ Some k
agrees None s a k is h = is
agrees (Some j) s a k is h =
    let other : not (is_same j k) ≡ false = ap (is_other j) (sym is) ∙ h in
    ap Some (same_is j k (not-false (is_same j k) other))

pub returns_its_kind : (o : Object) (pc : ℕ) (s : Shape) (a : Reg) (k : Kind) → fault_at_index o pc ≡ None → slice_get o.code pc ≡ Some (Ret a) → before o.code pc ≡ Some s → at s.registers a ≡ Some k → return_kind o ≡ Some k
returns_its_kind o pc s a k none there is set =
    let inside : pc < length o.code = slice_get_within o.code pc (Ret a) there in
    kind_kept o.code (suc pc) (length o.code) k
    (ap (λ x. option_or (first_kind_before o.code pc) (kind_at_return x (before o.code pc))) there
    ∙ ap (λ x. option_or (first_kind_before o.code pc) (kind_at_return (Some (Ret a)) x)) is
    ∙ agrees (first_kind_before o.code pc) s a k set (returns_no_other o pc (Ret a) s none there is))
    (omega (arith, inside))
