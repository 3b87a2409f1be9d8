-- Objects, as values.
-- Source: Cantrill, Shapiro and Leventhal, "Dynamic Instrumentation of Production Systems" (USENIX
-- 2004), on DIF.
use Rattle.std.specs.Prelude.{ℕ, List}
use Rattle.dif_validate.specs.declared.instruction.Instr.{Instr}
use Rattle.dif_validate.specs.declared.object.Difo.{Difo}

pub record Object : Type 0 where
  pub code : List Instr
  pub texts : List (List ℕ)
  pub numbers : List ℕ

abbrev pub object_of : Difo → Object
object_of difo =
    record { code = difo.code.items; texts = difo.texts.items; numbers = difo.numbers.items }
