-- Where values come from: the firing and the variables.
-- Source: Cantrill, Shapiro and Leventhal, "Dynamic Instrumentation of Production Systems" (USENIX
-- 2004), on DIF.
use Rattle.std.specs.Prelude.{ℕ, List, [], ◌∷◌, Option, Some, None, ℤ, slice_get}
use Rattle.dif_machine.specs.Vocabulary.{cast_unsigned, w64, Firing, KeyPart, Value, Int, Text, Var}
use Rattle.dif_machine.specs.Vocabulary.{Variables, as_kind}

-- timestamp, cpu, pid, tid, execname, probeprov, probemod, probefunc, probename
abbrev pub built_ins : Firing → List Value
built_ins f =
    Int f.time ∷ Int (cast_unsigned w64 f.cpu) ∷ Int (cast_unsigned w64 f.pid)
    ∷ Int (cast_unsigned w64 f.thread) ∷ Text f.execname ∷ Text f.provider ∷ Text f.probemod
    ∷ Text f.probefunc ∷ Text f.name ∷ []

-- none past the last
abbrev pub built_in_of : Firing → ℕ → Option Value
built_in_of f v = slice_get (built_ins f) v

abbrev pub word_or_zero : Option ℤ → ℕ
word_or_zero None = 0
word_or_zero (Some number) = cast_unsigned w64 number

abbrev pub argument_of : Firing → ℕ → ℕ
argument_of f n = word_or_zero (slice_get f.args n)

-- what a variable holds, as a value of its kind (one that a table keeps is)
abbrev pub local_in : Variables → Var → Value
local_in vars x = as_kind x.kind (vars.locals x)

abbrev pub own_value : Variables → Var → List KeyPart → Value
own_value vars x key = as_kind x.kind (vars.own x key)
