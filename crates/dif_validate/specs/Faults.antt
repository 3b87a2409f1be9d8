-- The fault of an instruction at its index: of several the first in the order of `DifFault`.
-- Source: Cantrill, Shapiro and Leventhal, "Dynamic Instrumentation of Production Systems" (USENIX
-- 2004), on DIF.
use Rattle.std.specs.Prelude.{ℕ, Bool, true, false, not, ◌||◌, nat_le, nat_lt, if◌then◌else◌, List}
use Rattle.std.specs.Prelude.{length, Option, Some, None, slice_get}
use Rattle.dif_validate.specs.Vocabulary.{DifFault, Backward, OutOfCode, RegisterKind, Unset}
use Rattle.dif_validate.specs.Vocabulary.{TupleShape, TableIndex, Variable, Flow, Next, Jump}
use Rattle.dif_validate.specs.Vocabulary.{Either, End, Instr, MAX_BUILT_IN, Kind, Object, Shape}
use Rattle.dif_validate.specs.Vocabulary.{at}
use Rattle.dif_validate.specs.Vocabulary.{Named, NoName, NumberAt, TextAt, VariableAt, ArrayAt}
use Rattle.dif_validate.specs.Rows.{row_of}
use Rattle.dif_validate.specs.Asks.{asks, finds_other, finds_unset, lacks_comparison, takes_tuple}
use Rattle.dif_validate.specs.Flow.{flow, jump_target, before}
use Rattle.dif_validate.specs.Returns.{first_kind_before}
use Rattle.dif_validate.specs.Shapes.{is_other}

-- ---- what can be wrong with any instruction

abbrev pub is_at_most : Option ℕ → ℕ → Bool
is_at_most None n = false
is_at_most (Some to) n = nat_le to n

abbrev pub is_at_least : Option ℕ → ℕ → Bool
is_at_least None n = false
is_at_least (Some to) n = nat_le n to

-- an instruction branches to its own index or to an earlier one
abbrev pub goes_back : Instr → ℕ → Bool
goes_back i pc = is_at_most (jump_target i) pc

-- an instruction branches past the last of `size` instructions
abbrev pub goes_out : Instr → ℕ → Bool
goes_out i size = is_at_least (jump_target i) size

-- what it names isn't in the object's table
abbrev pub is_past_table : Named → Object → Bool
is_past_table NoName o = false
is_past_table (NumberAt i) o = nat_le (length o.numbers) i
is_past_table (TextAt i) o = nat_le (length o.texts) i
is_past_table (VariableAt v) o = false
is_past_table (ArrayAt v) o = false

abbrev pub misses_table : Instr → Object → Bool
misses_table i o = is_past_table (row_of i).named o

-- what it names is no built-in variable; there is one array
abbrev pub is_no_variable : Named → Bool
is_no_variable NoName = false
is_no_variable (NumberAt i) = false
is_no_variable (TextAt i) = false
is_no_variable (VariableAt v) = nat_lt MAX_BUILT_IN v
is_no_variable (ArrayAt v) = nat_lt 0 v

abbrev pub misses_variable : Instr → Bool
misses_variable i = is_no_variable (row_of i).named

-- ---- and with one that is reached

-- a `ret` returns another kind than the first one
abbrev pub ends_other : Flow → Option Kind → Shape → Bool
ends_other Next kind s = false
ends_other (Jump to) kind s = false
ends_other (Either to) kind s = false
ends_other (End a) None s = false
ends_other (End a) (Some kind) s = is_other kind (at s.registers a)

abbrev pub returns_other : Instr → Option Kind → Shape → Bool
returns_other i kind s = ends_other (flow i) kind s

-- an instruction can't take the tuple, or ways with different ones meet
abbrev pub misses_tuple : Instr → Option (List Kind) → Bool
misses_tuple i None = true
misses_tuple i (Some tuple) = not (takes_tuple i tuple)

-- ---- the fault

-- the fault if this is so, else what is left
abbrev pub if_so : Bool → DifFault → Option DifFault → Option DifFault
if_so wrong fault rest = if wrong then Some fault else rest

-- the fault of an instruction if this is known and an earlier `ret` returns that kind
abbrev pub fault_in : Instr → ℕ → Option Kind → Shape → Option DifFault
fault_in i pc kind s =
    if_so (finds_other (asks i) s || returns_other i kind s) (RegisterKind pc)
    (if_so (finds_unset (asks i) s || lacks_comparison i s) (Unset pc)
    (if_so (misses_tuple i s.tuple) (TupleShape pc) None))

abbrev pub fault_if_reached : Instr → ℕ → Option Kind → Option Shape → Option DifFault
fault_if_reached i pc kind None = None
fault_if_reached i pc kind (Some s) = fault_in i pc kind s

abbrev pub first_of_faults : Option DifFault → Option DifFault → Option DifFault
first_of_faults None rest = rest
first_of_faults (Some fault) rest = Some fault

-- the fault, if it names what isn't there
abbrev pub fault_of_name : Instr → ℕ → Object → Option DifFault
fault_of_name i pc o =
    if_so (misses_table i o) (TableIndex pc)
    (if_so (misses_variable i) (Variable pc) None)

abbrev pub fault_of_instr : Object → ℕ → Instr → Option Kind → Option Shape → Option DifFault
fault_of_instr o pc i kind way =
    if_so (goes_back i pc) (Backward pc)
    (if_so (goes_out i (length o.code)) (OutOfCode pc)
    (first_of_faults (fault_if_reached i pc kind way) (fault_of_name i pc o)))

abbrev pub fault_there : Object → ℕ → Option Instr → Option DifFault
fault_there o pc None = None
fault_there o pc (Some i) = fault_of_instr o pc i (first_kind_before o.code pc) (before o.code pc)

abbrev pub fault_at_index : Object → ℕ → Option DifFault
fault_at_index o pc = fault_there o pc (slice_get o.code pc)
