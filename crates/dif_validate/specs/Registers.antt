-- Registers, by their numbers.
-- Source: Cantrill, Shapiro and Leventhal, "Dynamic Instrumentation of Production Systems" (USENIX
-- 2004), on DIF.
use Rattle.std.specs.Prelude.{ℕ, List, Option, None, slice_index_or, slice_set}
use Rattle.dif_validate.specs.declared.register.Reg.{Reg}
use Rattle.dif_validate.specs.declared.register.Reg.TheVariants.{R0, R1, R2, R3, R4, R5, R6, R7}

abbrev pub register_number : Reg → ℕ
register_number R0 = 0
register_number R1 = 1
register_number R2 = 2
register_number R3 = 3
register_number R4 = 4
register_number R5 = 5
register_number R6 = 6
register_number R7 = 7

-- what is known of a register, or none if it is unset
abbrev pub at : {A : Type 0} → List (Option A) → Reg → Option A
at registers r = slice_index_or registers (register_number r) None

-- the registers after a write, which the first ignores
abbrev pub put : {A : Type 0} → List (Option A) → Reg → Option A → List (Option A)
put registers R0 x = registers
put registers r x = slice_set registers (register_number r) x
