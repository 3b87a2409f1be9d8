-- An object has one verdict.
use Rattle.std.specs.Prelude.{◌≡◌, ◌≢◌, ◌⊎◌, ◌<◌, ◌≤◌, ℕ, zero, suc, true, false, List, []}
use Rattle.std.specs.Prelude.{◌∷◌, length, Option, Some, None, slice_get}
use Rattle.std.proofs.Common.{refl, sym, ap, ◌∙◌, subst, ⊎_elim, inl, inr, arith}
use Rattle.std.proofs.lemmas.Bool.{cases_lt, cases_Bool}
use Rattle.std.proofs.lemmas.Option.{slice_get_past}
use Rattle.dif_validate.specs.declared.fault.DifFault.{DifFault}
use Rattle.dif_validate.specs.declared.fault.DifFault.TheVariants.{Empty, NoReturn, Backward}
use Rattle.dif_validate.specs.declared.fault.DifFault.TheVariants.{OutOfCode, RegisterKind, Unset}
use Rattle.dif_validate.specs.declared.fault.DifFault.TheVariants.{TupleShape, TableIndex, Variable}
use Rattle.dif_validate.specs.declared.fault.DifFault.TheVariants.{Memory}
use Rattle.dif_validate.specs.declared.instruction.Instr.{Instr}
use Rattle.dif_validate.specs.Faults.{fault_there, fault_at_index}
use Rattle.dif_validate.specs.Objects.{Object}
use Rattle.dif_validate.specs.Validity.{is_closed, IsFirst, IsInvalid, IsValid}
use Rattle.dif_validate.proofs.Faultless.{AreOfIndex, fault_placed, refused}

-- ---- there is one

-- no index before n has a fault, or one is the first
found : (o : Object) (n : ℕ) → ((q : ℕ) → q < n → fault_at_index o q ≡ None) ⊎ ((pc : ℕ) × (fault : DifFault) × IsFirst o pc fault)
found o zero = inl (λ q less. absurd (omega (arith, less)))
found o (suc n) = ⊎_elim (λ none. at_last none (fault_at_index o n) refl) inr (found o n)
  where
    at_last : ((q : ℕ) → q < n → fault_at_index o q ≡ None) → (w : Option DifFault) → fault_at_index o n ≡ w
        → ((q : ℕ) → q < suc n → fault_at_index o q ≡ None) ⊎ ((pc : ℕ) × (fault : DifFault) × IsFirst o pc fault)
    at_last none None e =
        inl (λ q less.
        ⊎_elim (none q)
        (λ (more : n ≤ q). let same : n ≡ q = omega arith in subst (λ p. fault_at_index o p ≡ None) same e)
        (cases_lt q n))
    at_last none (Some fault) e = inr (n, fault, record { here = e; earlier = none })

-- where the last instruction returns
closed_verdict : (o : Object) → is_closed o.code ≡ true → IsValid o ⊎ ((fault : DifFault) × (fault ≢ Memory) × IsInvalid o fault)
closed_verdict o closed =
    ⊎_elim
    (λ none. inl record {
      closed = closed;
      each = λ pc.
          ⊎_elim (none pc)
          (λ (past : length o.code ≤ pc). ap (fault_there o pc) (slice_get_past o.code pc past))
          (cases_lt pc (length o.code));
    })
    (λ (f : (pc : ℕ) × (fault : DifFault) × IsFirst o pc fault).
    inr (
      f.1,
      λ memory. subst AreOfIndex (f.2.here ∙ ap Some memory) (fault_placed o f.0 (slice_get o.code f.0)),
      refused o f.0 f.1 closed f.2,
    ))
    (found o (length o.code))

open_verdict : (code : List Instr) (o : Object) → o.code ≡ code → is_closed o.code ≡ false → (fault : DifFault) × (fault ≢ Memory) × IsInvalid o fault
open_verdict [] o is open_ = (Empty, λ e. cc, is)
open_verdict (i ∷ code) o is open_ = (NoReturn, λ e. cc, (λ none. let e : i ∷ code ≡ [] = sym is ∙ none in cc, open_))

pub has_verdict : (o : Object) → IsValid o ⊎ ((fault : DifFault) × (fault ≢ Memory) × IsInvalid o fault)
has_verdict o = ⊎_elim (closed_verdict o) (λ e. inr (open_verdict o.code o refl e)) (cases_Bool (is_closed o.code))

-- ---- and no other

-- why an object is not valid
data Reason (o : Object) (fault : DifFault) : Type 0 where
  without_code : o.code ≡ [] → fault ≡ Empty → Reason o fault
  open_ended : o.code ≢ [] → is_closed o.code ≡ false → fault ≡ NoReturn → Reason o fault
  faulty : is_closed o.code ≡ true → (pc : ℕ) → IsFirst o pc fault → Reason o fault

reason : (o : Object) (fault : DifFault) → fault ≢ Memory → IsInvalid o fault → Reason o fault
reason o Empty not_memory h = without_code h refl
reason o NoReturn not_memory h = open_ended h.0 h.1 refl
reason o Memory not_memory h = absurd (not_memory refl)
reason o (Backward pc) not_memory h = faulty h.0 h.1 h.2
reason o (OutOfCode pc) not_memory h = faulty h.0 h.1 h.2
reason o (RegisterKind pc) not_memory h = faulty h.0 h.1 h.2
reason o (Unset pc) not_memory h = faulty h.0 h.1 h.2
reason o (TupleShape pc) not_memory h = faulty h.0 h.1 h.2
reason o (TableIndex pc) not_memory h = faulty h.0 h.1 h.2
reason o (Variable pc) not_memory h = faulty h.0 h.1 h.2

empty_is_open : (code : List Instr) → code ≡ [] → is_closed code ≡ true → ⊥
empty_is_open code e closed = let f : is_closed [] ≡ true = ap is_closed (sym e) ∙ closed in cc

-- the fault at the lesser index is the first
ordered : (o : Object) (p q : ℕ) (a b : DifFault) → p < q → IsFirst o p a → IsFirst o q b → ⊥
ordered o p q a b less first other = let e : ◌≡◌ {A = Option DifFault} (Some a) None = sym first.here ∙ other.earlier p less in cc

one_first : (o : Object) (p q : ℕ) (a b : DifFault) → IsFirst o p a → IsFirst o q b → a ≡ b
one_first o p q a b first other =
    ⊎_elim
    (λ (less : p < q). absurd (ordered o p q a b less first other))
    (λ (up : q ≤ p).
    ⊎_elim
    (λ (less : q < p). absurd (ordered o q p b a less other first))
    (λ (down : p ≤ q).
    let same : p ≡ q = omega arith in
    let e : ◌≡◌ {A = Option DifFault} (Some a) (Some b) = sym first.here ∙ ap (fault_at_index o) same ∙ other.here in cc)
    (cases_lt q p))
    (cases_lt p q)

same_fault : (o : Object) (a b : DifFault) → Reason o a → Reason o b → a ≡ b
same_fault o a b (without_code none is) (without_code none' is') = is ∙ sym is'
same_fault o a b (without_code none is) (open_ended some closed is') = absurd (some none)
same_fault o a b (without_code none is) (faulty closed pc first) = absurd (empty_is_open o.code none closed)
same_fault o a b (open_ended some closed is) (without_code none is') = absurd (some none)
same_fault o a b (open_ended some closed is) (open_ended some' closed' is') = is ∙ sym is'
same_fault o a b (open_ended some closed is) (faulty closed' pc first) = let e : false ≡ true = sym closed ∙ closed' in cc
same_fault o a b (faulty closed pc first) (without_code none is) = absurd (empty_is_open o.code none closed)
same_fault o a b (faulty closed pc first) (open_ended some closed' is) = let e : false ≡ true = sym closed' ∙ closed in cc
same_fault o a b (faulty closed pc first) (faulty closed' q other) = one_first o pc q a b first other

pub one_fault : (o : Object) (a b : DifFault) → a ≢ Memory → b ≢ Memory → IsInvalid o a → IsInvalid o b → a ≡ b
one_fault o a b not_memory not_memory' h h' = same_fault o a b (reason o a not_memory h) (reason o b not_memory' h')

no_reason : (o : Object) (fault : DifFault) → IsValid o → Reason o fault → ⊥
no_reason o fault valid (without_code none is) = empty_is_open o.code none valid.closed
no_reason o fault valid (open_ended some closed is) = let e : false ≡ true = sym closed ∙ valid.closed in cc
no_reason o fault valid (faulty closed pc first) = let e : ◌≡◌ {A = Option DifFault} (Some fault) None = sym first.here ∙ valid.each pc in cc

pub valid_without_fault : (o : Object) (fault : DifFault) → fault ≢ Memory → IsValid o → IsInvalid o fault → ⊥
valid_without_fault o fault not_memory valid h = no_reason o fault valid (reason o fault not_memory h)
