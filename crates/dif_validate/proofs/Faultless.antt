-- What an instruction without a fault has.
use Rattle.std.specs.Prelude.{◌≡◌, ◌<◌, ℕ, Bool, true, false, ◌||◌, length, Option, Some, None}
use Rattle.std.specs.Prelude.{slice_get}
use Rattle.std.proofs.Common.{refl, sym, ap, ◌∙◌, subst}
use Rattle.std.proofs.lemmas.Bool.{leb-false}
use Rattle.d_values.specs.declared.value.Kind.{Kind}
use Rattle.dif_validate.specs.declared.fault.DifFault.{DifFault}
use Rattle.dif_validate.specs.declared.fault.DifFault.TheVariants.{Empty, NoReturn, Backward}
use Rattle.dif_validate.specs.declared.fault.DifFault.TheVariants.{OutOfCode, RegisterKind, Unset}
use Rattle.dif_validate.specs.declared.fault.DifFault.TheVariants.{TupleShape, TableIndex, Variable}
use Rattle.dif_validate.specs.declared.fault.DifFault.TheVariants.{Memory}
use Rattle.dif_validate.specs.declared.instruction.Instr.{Instr}
use Rattle.dif_validate.specs.declared.shape.Shape.{Shape}
use Rattle.dif_validate.specs.Asks.{asks, finds_other, finds_unset, lacks_comparison}
use Rattle.dif_validate.specs.Faults.{goes_back, goes_out, misses_table, misses_variable}
use Rattle.dif_validate.specs.Faults.{returns_other, misses_tuple, if_so, fault_in}
use Rattle.dif_validate.specs.Faults.{fault_if_reached, first_of_faults, fault_of_instr}
use Rattle.dif_validate.specs.Faults.{fault_there, fault_at_index}
use Rattle.dif_validate.specs.Flow.{jump_target, before}
use Rattle.dif_validate.specs.Objects.{Object}
use Rattle.dif_validate.specs.Returns.{first_kind_before}
use Rattle.dif_validate.specs.Validity.{is_closed, IsFirst, IsInvalid}

if_so_none : (wrong : Bool) (fault : DifFault) (rest : Option DifFault) → if_so wrong fault rest ≡ None → (wrong ≡ false) × (rest ≡ None)
if_so_none true fault rest h = cc
if_so_none false fault rest h = (refl, h)

first_of_none : (a b : Option DifFault) → first_of_faults a b ≡ None → (a ≡ None) × (b ≡ None)
first_of_none None b h = (refl, h)
first_of_none (Some fault) b h = cc

or_none : (a b : Bool) → (a || b) ≡ false → (a ≡ false) × (b ≡ false)
or_none true b h = cc
or_none false b h = (refl, h)

-- a reached instruction has what it asks for
pub record IsFine (i : Instr) (s : Shape) : Type 0 where
  pub kinds : finds_other (asks i) s ≡ false
  pub set : finds_unset (asks i) s ≡ false
  pub compared : lacks_comparison i s ≡ false
  pub tuple : misses_tuple i s.tuple ≡ false

pub record IsFaultless (o : Object) (pc : ℕ) (i : Instr) (s : Shape) : Type 0 where
  pub forward : goes_back i pc ≡ false
  pub inside : goes_out i (length o.code) ≡ false
  pub fine : IsFine i s
  pub table : misses_table i o ≡ false
  pub variable : misses_variable i ≡ false

fine : (i : Instr) (pc : ℕ) (kind : Option Kind) (s : Shape) → fault_in i pc kind s ≡ None → IsFine i s
fine i pc kind s h =
    let a = if_so_none (finds_other (asks i) s || returns_other i kind s) _ _ h in
    let b = if_so_none (finds_unset (asks i) s || lacks_comparison i s) _ _ a.1 in
    let c = if_so_none (misses_tuple i s.tuple) _ _ b.1 in
    let x = or_none (finds_other (asks i) s) _ a.0 in
    let y = or_none (finds_unset (asks i) s) _ b.0 in
    record { kinds = x.0; set = y.0; compared = y.1; tuple = c.0 }

faultless_by : (o : Object) (pc : ℕ) (i : Instr) (kind : Option Kind) (s : Shape) → fault_of_instr o pc i kind (Some s) ≡ None → IsFaultless o pc i s
faultless_by o pc i kind s h =
    let a = if_so_none (goes_back i pc) _ _ h in
    let b = if_so_none (goes_out i (length o.code)) _ _ a.1 in
    let c = first_of_none (fault_in i pc kind s) _ b.1 in
    let d = if_so_none (misses_table i o) _ _ c.1 in
    let e = if_so_none (misses_variable i) _ _ d.1 in
    record { forward = a.0; inside = b.0; fine = fine i pc kind s c.0; table = d.0; variable = e.0 }

pub faultless : (o : Object) (pc : ℕ) (i : Instr) (s : Shape) → fault_at_index o pc ≡ None → slice_get o.code pc ≡ Some i → before o.code pc ≡ Some s → IsFaultless o pc i s
faultless o pc i s none there is =
    faultless_by o pc i (first_kind_before o.code pc) s
    (ap (fault_of_instr o pc i (first_kind_before o.code pc)) (sym is) ∙ ap (fault_there o pc) (sym there) ∙ none)

-- a `ret` returns no other kind than an earlier one
pub returns_no_other : (o : Object) (pc : ℕ) (i : Instr) (s : Shape) → fault_at_index o pc ≡ None → slice_get o.code pc ≡ Some i → before o.code pc ≡ Some s → returns_other i (first_kind_before o.code pc) s ≡ false
returns_no_other o pc i s none there is =
    let kind = first_kind_before o.code pc in
    let h : fault_of_instr o pc i kind (Some s) ≡ None = ap (fault_of_instr o pc i kind) (sym is) ∙ ap (fault_there o pc) (sym there) ∙ none in
    let a = if_so_none (goes_back i pc) _ _ h in
    let b = if_so_none (goes_out i (length o.code)) _ _ a.1 in
    let c = first_of_none (fault_in i pc kind s) _ b.1 in
    let d = if_so_none (finds_other (asks i) s || returns_other i kind s) _ _ c.0 in
    (or_none (finds_other (asks i) s) _ d.0).1

-- ---- branches

pub goes_on : (i : Instr) (pc to : ℕ) → goes_back i pc ≡ false → jump_target i ≡ Some to → pc < to
goes_on i pc to h is = leb-false to pc (rw is at h)

pub stays_in : (i : Instr) (size to : ℕ) → goes_out i size ≡ false → jump_target i ≡ Some to → to < size
stays_in i size to h is = leb-false size to (rw is at h)

-- ---- the fault of an instruction is that of an index

abbrev pub IsOfIndex : DifFault → Type 0
IsOfIndex Empty = ⊥
IsOfIndex NoReturn = ⊥
IsOfIndex Memory = ⊥
IsOfIndex _ = Unit {0}

abbrev pub AreOfIndex : Option DifFault → Type 0
AreOfIndex None = Unit {0}
AreOfIndex (Some fault) = IsOfIndex fault

if_so_placed : (wrong : Bool) (fault : DifFault) (rest : Option DifFault) → IsOfIndex fault → AreOfIndex rest → AreOfIndex (if_so wrong fault rest)
if_so_placed true fault rest a b = a
if_so_placed false fault rest a b = b

first_of_placed : (a b : Option DifFault) → AreOfIndex a → AreOfIndex b → AreOfIndex (first_of_faults a b)
first_of_placed None b x y = y
first_of_placed (Some fault) b x y = x

reached_placed : (i : Instr) (pc : ℕ) (kind : Option Kind) (way : Option Shape) → AreOfIndex (fault_if_reached i pc kind way)
reached_placed i pc kind None = tt
reached_placed i pc kind (Some s) =
    if_so_placed (finds_other (asks i) s || returns_other i kind s) (RegisterKind pc) _ tt
    (if_so_placed (finds_unset (asks i) s || lacks_comparison i s) (Unset pc) _ tt (if_so_placed (misses_tuple i s.tuple) (TupleShape pc) None tt tt))

pub fault_placed : (o : Object) (pc : ℕ) (i : Option Instr) → AreOfIndex (fault_there o pc i)
fault_placed o pc None = tt
fault_placed o pc (Some i) =
    if_so_placed (goes_back i pc) (Backward pc) _ tt
    (if_so_placed (goes_out i (length o.code)) (OutOfCode pc) _ tt
    (first_of_placed (fault_if_reached i pc (first_kind_before o.code pc) (before o.code pc)) _ (reached_placed i pc _ (before o.code pc))
    (if_so_placed (misses_table i o) (TableIndex pc) _ tt (if_so_placed (misses_variable i) (Variable pc) None tt tt))))

-- so the first fault is the reason of a refusal
pub refused : (o : Object) (pc : ℕ) (fault : DifFault) → is_closed o.code ≡ true → IsFirst o pc fault → IsInvalid o fault
refused o pc Empty closed h = absurd (subst AreOfIndex h.here (fault_placed o pc (slice_get o.code pc)))
refused o pc NoReturn closed h = absurd (subst AreOfIndex h.here (fault_placed o pc (slice_get o.code pc)))
refused o pc Memory closed h = tt
refused o pc (Backward p) closed h = (closed, pc, h)
refused o pc (OutOfCode p) closed h = (closed, pc, h)
refused o pc (RegisterKind p) closed h = (closed, pc, h)
refused o pc (Unset p) closed h = (closed, pc, h)
refused o pc (TupleShape p) closed h = (closed, pc, h)
refused o pc (TableIndex p) closed h = (closed, pc, h)
refused o pc (Variable p) closed h = (closed, pc, h)
