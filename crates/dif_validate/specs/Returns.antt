-- The kind that an object returns.
-- Source: Cantrill, Shapiro and Leventhal, "Dynamic Instrumentation of Production Systems" (USENIX
-- 2004), on DIF.
use Rattle.std.specs.Prelude.{ℕ, zero, suc, List, Option, Some, None, slice_get, length}
use Rattle.std.specs.Option.{option_or}
use Rattle.dif_validate.specs.Vocabulary.{Flow, Next, Jump, Either, End, Instr, Kind, Object, Shape}
use Rattle.dif_validate.specs.Vocabulary.{at}
use Rattle.dif_validate.specs.Flow.{flow, before}

-- the kind that an instruction returns if this is known
abbrev pub returns_by : Flow → Shape → Option Kind
returns_by Next s = None
returns_by (Jump to) s = None
returns_by (Either to) s = None
returns_by (End a) s = at s.registers a

abbrev pub returns : Instr → Shape → Option Kind
returns i s = returns_by (flow i) s

-- if it is reached
abbrev pub kind_at_return : Option Instr → Option Shape → Option Kind
kind_at_return (Some i) (Some s) = returns i s
kind_at_return _ _ = None

-- what the first reached `ret` before n returns
abbrev pub first_kind_before : List Instr → ℕ → Option Kind
first_kind_before code zero = None
first_kind_before code (suc pc) =
    option_or (first_kind_before code pc) (kind_at_return (slice_get code pc) (before code pc))

abbrev pub return_kind : Object → Option Kind
return_kind o = first_kind_before o.code (length o.code)
