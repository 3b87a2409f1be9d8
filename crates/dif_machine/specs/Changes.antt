-- What one instruction changes.
-- Source: Cantrill, Shapiro and Leventhal, "Dynamic Instrumentation of Production Systems" (USENIX
-- 2004), on DIF.
use Rattle.std.specs.Prelude.{◌≡◌, ◌≢◌, ◌+◌, Bool, true, false, Option, Some, None}
use Rattle.dif_validate.specs.Flow.{jump_target}
use Rattle.dif_validate.specs.declared.row.Change.{Change}
use Rattle.dif_validate.specs.declared.row.Change.TheVariants.{Puts, Copies, ComparesTwo, Pushes}
use Rattle.dif_validate.specs.declared.row.Change.TheVariants.{Empties, StoresVariable, NoChange}
use Rattle.dif_validate.specs.Rows.{row_of}
use Rattle.dif_machine.specs.Vocabulary.{Instr, Reg, at, Variables}
use Rattle.dif_machine.specs.Frames.{Frame}
use Rattle.dif_machine.specs.Semantics.{Next, Goes, Ends, Faults, Stuck}

-- the register that an instruction writes
abbrev pub register_in : Change → Option Reg
register_in (Puts kind d) = Some d
register_in (Copies a d) = Some d
register_in ComparesTwo = None
register_in (Pushes kind) = None
register_in Empties = None
register_in StoresVariable = None
register_in NoChange = None

abbrev pub output_register : Instr → Option Reg
output_register i = register_in (row_of i).change

-- a change is of the tuple
abbrev pub is_of_tuple : Change → Bool
is_of_tuple (Puts kind d) = false
is_of_tuple (Copies a d) = false
is_of_tuple ComparesTwo = false
is_of_tuple (Pushes kind) = true
is_of_tuple Empties = true
is_of_tuple StoresVariable = false
is_of_tuple NoChange = false

abbrev pub fills : Instr → Bool
fills i = is_of_tuple (row_of i).change

-- from one state to the next: nothing else than what the instruction is for
pub record IsChanged (i : Instr) (s : Frame) (vars : Variables) (t : Frame) (after : Variables)
    : Type 0 where
  pub index : t.pc ≢ s.pc + 1 → jump_target i ≡ Some t.pc
  pub registers : (r : Reg) → output_register i ≢ Some r → at t.registers r ≡ at s.registers r
  pub comparison : (row_of i).change ≢ ComparesTwo → t.comparison ≡ s.comparison
  pub tuple : fills i ≡ false → t.tuple ≡ s.tuple
  pub variables : (row_of i).change ≢ StoresVariable → after ≡ vars

-- a step that ends the run changes no variable
abbrev pub Changes : Instr → Frame → Variables → Next → Type 0
Changes i s vars (Goes t after) = IsChanged i s vars t after
Changes i s vars (Ends value after) = after ≡ vars
Changes i s vars (Faults after) = after ≡ vars
Changes i s vars Stuck = Unit {0}
