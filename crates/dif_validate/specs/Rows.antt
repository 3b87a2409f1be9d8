-- Instruction by instruction: what it reads, what it names, which tuple it takes, what it changes
-- and where it leads. All other definitions speak of a row of this table.
-- Source: Cantrill, Shapiro and Leventhal, "Dynamic Instrumentation of Production Systems" (USENIX
-- 2004), on DIF.
use Rattle.std.specs.Prelude.{ℕ, nat_lt, if◌then◌else◌}
use Rattle.dif_validate.specs.Vocabulary.{Asks, Nothing, Any, One, Two, Flow, Next, Jump, Either}
use Rattle.dif_validate.specs.Vocabulary.{End, Function, Strlen, Strjoin, Instr, Alu, Not, Mov, Cmp}
use Rattle.dif_validate.specs.Vocabulary.{Tst, Scmp, Ba, Branch, Setx, Sets, Ldgs, Ldga, Ldts, Stts}
use Rattle.dif_validate.specs.Vocabulary.{Ldls, Stls, Pushtr, Pushtv, Flushts, Ldtaa, Sttaa, Call}
use Rattle.dif_validate.specs.Vocabulary.{Ret, Nop, Kind, Number, Text}
use Rattle.dif_validate.specs.Vocabulary.{Named, NoName, NumberAt, TextAt, VariableAt, ArrayAt}
use Rattle.dif_validate.specs.Vocabulary.{TupleNeed, AnyTuple, WithRoom, Filled, TupleOf}
use Rattle.dif_validate.specs.Vocabulary.{Change, Puts, Copies, ComparesTwo, Pushes, Empties}
use Rattle.dif_validate.specs.Vocabulary.{StoresVariable, NoChange, InstructionRow}

-- the row of an instruction that names nothing, takes any tuple and goes on to the next one
abbrev pub plain_row : Asks → Change → InstructionRow
plain_row asks change =
    record { asks = asks; named = NoName; tuple = AnyTuple; change = change; flow = Next }

abbrev pub naming_row : Named → Asks → Change → InstructionRow
naming_row named asks change =
    record { asks = asks; named = named; tuple = AnyTuple; change = change; flow = Next }

abbrev pub tuple_row : TupleNeed → Asks → Change → InstructionRow
tuple_row tuple asks change =
    record { asks = asks; named = NoName; tuple = tuple; change = change; flow = Next }

-- it changes nothing
abbrev pub leading_row : Asks → Flow → InstructionRow
leading_row asks flow =
    record { asks = asks; named = NoName; tuple = AnyTuple; change = NoChange; flow = flow }

-- timestamp, cpu, pid and tid are numbers, and all others texts
abbrev pub kind_of_built_in : ℕ → Kind
kind_of_built_in v = if nat_lt v 4 then Number else Text

abbrev pub kind_of_function : Function → Kind
kind_of_function Strlen = Number
kind_of_function Strjoin = Text

abbrev pub row_of : Instr → InstructionRow
row_of (Alu op a b d) = plain_row (Two Number a b) (Puts Number d)
row_of (Not a d) = plain_row (One Number a) (Puts Number d)
row_of (Mov a d) = plain_row (Any a) (Copies a d)
row_of (Cmp a b) = plain_row (Two Number a b) ComparesTwo
row_of (Tst a) = plain_row (One Number a) ComparesTwo
row_of (Scmp a b) = plain_row (Two Text a b) ComparesTwo
row_of (Ba to) = leading_row Nothing (Jump to)
row_of (Branch condition to) = leading_row Nothing (Either to)
row_of (Setx i d) = naming_row (NumberAt i) Nothing (Puts Number d)
row_of (Sets i d) = naming_row (TextAt i) Nothing (Puts Text d)
row_of (Ldgs v d) = naming_row (VariableAt v) Nothing (Puts (kind_of_built_in v) d)
row_of (Ldga v a d) = naming_row (ArrayAt v) (One Number a) (Puts Number d)
row_of (Ldts x d) = plain_row Nothing (Puts x.kind d)
row_of (Stts x a) = plain_row (One x.kind a) StoresVariable
row_of (Ldls x d) = plain_row Nothing (Puts x.kind d)
row_of (Stls x a) = plain_row (One x.kind a) StoresVariable
row_of (Pushtr a) = tuple_row WithRoom (One Text a) (Pushes Text)
row_of (Pushtv a) = tuple_row WithRoom (One Number a) (Pushes Number)
row_of Flushts = plain_row Nothing Empties
row_of (Ldtaa x d) = tuple_row Filled Nothing (Puts x.kind d)
row_of (Sttaa x a) = tuple_row Filled (One x.kind a) StoresVariable
row_of (Call f d) = tuple_row (TupleOf f) Nothing (Puts (kind_of_function f) d)
row_of (Ret a) = leading_row (Any a) (End a)
row_of Nop = plain_row Nothing NoChange
