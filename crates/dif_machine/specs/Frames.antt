-- What changes from step to step, but for the variables.
-- Source: Cantrill, Shapiro and Leventhal, "Dynamic Instrumentation of Production Systems" (USENIX
-- 2004), on DIF.
use Rattle.std.specs.Prelude.{ℕ, ◌+◌, List, [], ◌∷◌, Option, Some, None}
use Rattle.dif_machine.specs.Vocabulary.{Comparison, KeyPart, Reg, put, Value, Int}

-- the index of the instruction that is next, what each register holds (none if it is unset), how
-- the two values compare that were compared last, and the tuple
pub record Frame : Type 0 where
  pub pc : ℕ
  pub registers : List (Option Value)
  pub comparison : Option Comparison
  pub tuple : List KeyPart

-- before the first instruction the first register is 0, and nothing else is set
abbrev pub start : Frame
start = record {
  pc = 0;
  registers = Some (Int 0) ∷ None ∷ None ∷ None ∷ None ∷ None ∷ None ∷ None ∷ [];
  comparison = None;
  tuple = [];
}

-- ---- on to another instruction

abbrev pub at_index : Frame → ℕ → Frame
at_index s pc = record {
  pc = pc;
  registers = s.registers;
  comparison = s.comparison;
  tuple = s.tuple;
}

-- with what a register holds
abbrev pub with_register : Frame → Reg → Option Value → Frame
with_register s d content = record {
  pc = s.pc;
  registers = put s.registers d content;
  comparison = s.comparison;
  tuple = s.tuple;
}

abbrev pub with_known : Frame → Comparison → Frame
with_known s known = record {
  pc = s.pc;
  registers = s.registers;
  comparison = Some known;
  tuple = s.tuple;
}

abbrev pub with_parts : Frame → List KeyPart → Frame
with_parts s tuple = record {
  pc = s.pc;
  registers = s.registers;
  comparison = s.comparison;
  tuple = tuple;
}

-- ---- and on to the next instruction

abbrev pub with_value : Frame → Reg → Value → Frame
with_value s d value = at_index (with_register s d (Some value)) (s.pc + 1)

abbrev pub with_comparison : Frame → Comparison → Frame
with_comparison s known = at_index (with_known s known) (s.pc + 1)

abbrev pub with_tuple : Frame → List KeyPart → Frame
with_tuple s tuple = at_index (with_parts s tuple) (s.pc + 1)
