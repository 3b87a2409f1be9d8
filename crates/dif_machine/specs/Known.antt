-- When a frame has what is known before an instruction.
-- Source: Cantrill, Shapiro and Leventhal, "Dynamic Instrumentation of Production Systems" (USENIX
-- 2004), on DIF.
use Rattle.std.specs.Prelude.{◌≡◌, ◌≢◌, List, Option, Some, None, length, true}
use Rattle.dif_validate.specs.declared.shape.Shape.{Shape}
use Rattle.dif_machine.specs.Vocabulary.{Kind, Reg, at, Value, kind_of}
use Rattle.dif_machine.specs.Frames.{Frame}
use Rattle.dif_machine.specs.Kinds.{kinds_of}

-- a value of the kind is there
pub record Holds (known : Option Value) (k : Kind) : Type 0 where
  pub value : Value
  pub is : known ≡ Some value
  pub kind : kind_of value ≡ k

-- each register that has a kind holds a value of it, a comparison is there, and the tuple has these
-- kinds; there are eight registers
pub record FitsShape (s : Shape) (f : Frame) : Type 0 where
  pub registers : (r : Reg) (k : Kind) → at s.registers r ≡ Some k → Holds (at f.registers r) k
  pub compared : s.compared ≡ true → f.comparison ≢ None
  pub tuple : (ks : List Kind) → s.tuple ≡ Some ks → kinds_of f.tuple ≡ ks
  pub long : length f.registers ≡ 8
