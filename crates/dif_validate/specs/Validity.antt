-- Which objects are valid, and what the validator returns.
-- Source: Cantrill, Shapiro and Leventhal, "Dynamic Instrumentation of Production Systems" (USENIX
-- 2004), on DIF.
use Rattle.std.specs.Prelude.{◌≡◌, ◌≢◌, ◌<◌, ℕ, ◌-◌, Bool, true, false, List, [], length, Option}
use Rattle.std.specs.Prelude.{Some, None, Result, Ok, Err, slice_get}
use Rattle.dif_validate.specs.Vocabulary.{DifFault, Empty, NoReturn, Backward, OutOfCode}
use Rattle.dif_validate.specs.Vocabulary.{RegisterKind, Unset, TupleShape, TableIndex, Variable}
use Rattle.dif_validate.specs.Vocabulary.{Memory, Flow, Next, Jump, Either, End, Instr, Kind}
use Rattle.dif_validate.specs.Vocabulary.{Object}
use Rattle.dif_validate.specs.Faults.{fault_at_index}
use Rattle.dif_validate.specs.Flow.{flow}
use Rattle.dif_validate.specs.Returns.{return_kind}

abbrev pub ends_run : Flow → Bool
ends_run Next = false
ends_run (Jump to) = false
ends_run (Either to) = false
ends_run (End a) = true

abbrev pub is_return : Option Instr → Bool
is_return None = false
is_return (Some i) = ends_run (flow i)

-- the last instruction returns
abbrev pub is_closed : List Instr → Bool
is_closed code = is_return (slice_get code (length code - 1))

-- no instruction has a fault
pub record IsValid (o : Object) : Type 0 where
  pub closed : is_closed o.code ≡ true
  pub each : (pc : ℕ) → fault_at_index o pc ≡ None

-- the fault is at this index, and none before it
pub record IsFirst (o : Object) (pc : ℕ) (fault : DifFault) : Type 0 where
  pub here : fault_at_index o pc ≡ Some fault
  pub earlier : (q : ℕ) → q < pc → fault_at_index o q ≡ None

-- the last instruction returns, and the first instruction with a fault has this one
abbrev pub IsFirstFault : Object → DifFault → Type 0
IsFirstFault o fault = (is_closed o.code ≡ true) × (pc : ℕ) × IsFirst o pc fault

-- the object is not valid, by this fault
abbrev pub IsInvalid : Object → DifFault → Type 0
IsInvalid o Empty = o.code ≡ []
IsInvalid o NoReturn = (o.code ≢ []) × (is_closed o.code ≡ false)
IsInvalid o Memory = Unit {0}
IsInvalid o (Backward pc) = IsFirstFault o (Backward pc)
IsInvalid o (OutOfCode pc) = IsFirstFault o (OutOfCode pc)
IsInvalid o (RegisterKind pc) = IsFirstFault o (RegisterKind pc)
IsInvalid o (Unset pc) = IsFirstFault o (Unset pc)
IsInvalid o (TupleShape pc) = IsFirstFault o (TupleShape pc)
IsInvalid o (TableIndex pc) = IsFirstFault o (TableIndex pc)
IsInvalid o (Variable pc) = IsFirstFault o (Variable pc)

-- a valid object as it was, or the first fault
abbrev pub Judges : Object → Result Object DifFault → Type 0
Judges o (Ok valid) = (valid ≡ o) × IsValid o
Judges o (Err fault) = IsInvalid o fault

-- a valid object, and the kind that it returns
pub record IsReturning (o : Object) (kind : Kind) : Type 0 where
  pub valid : IsValid o
  pub returned : return_kind o ≡ Some kind
