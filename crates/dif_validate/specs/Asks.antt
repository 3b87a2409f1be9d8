-- What an instruction asks of the registers, the comparison and the tuple.
-- Source: Cantrill, Shapiro and Leventhal, "Dynamic Instrumentation of Production Systems" (USENIX
-- 2004), on DIF.
use Rattle.std.specs.Prelude.{Bool, true, false, not, ◌&&◌, ◌||◌, List, [], ◌∷◌}
use Rattle.dif_validate.specs.Vocabulary.{Asks, Nothing, Any, One, Two, Flow, Next, Jump, Either}
use Rattle.dif_validate.specs.Vocabulary.{End, Function, Strlen, Strjoin, Instr, Kind, Text, Shape}
use Rattle.dif_validate.specs.Vocabulary.{at}
use Rattle.dif_validate.specs.Vocabulary.{TupleNeed, AnyTuple, WithRoom, Filled, TupleOf}
use Rattle.dif_validate.specs.Rows.{row_of}
use Rattle.dif_validate.specs.Flow.{flow}
use Rattle.dif_validate.specs.Shapes.{is_other, is_unset, has_room}

-- the registers that it reads
abbrev pub asks : Instr → Asks
asks i = (row_of i).asks

-- a register that is asked for is set and of another kind
abbrev pub finds_other : Asks → Shape → Bool
finds_other Nothing s = false
finds_other (Any a) s = false
finds_other (One kind a) s = is_other kind (at s.registers a)
finds_other (Two kind a b) s =
    is_other kind (at s.registers a) || is_other kind (at s.registers b)

-- a register that is asked for is unset
abbrev pub finds_unset : Asks → Shape → Bool
finds_unset Nothing s = false
finds_unset (Any a) s = is_unset (at s.registers a)
finds_unset (One kind a) s = is_unset (at s.registers a)
finds_unset (Two kind a b) s = is_unset (at s.registers a) || is_unset (at s.registers b)

-- an instruction branches by a comparison that is unset
abbrev pub asks_comparison : Flow → Bool
asks_comparison Next = false
asks_comparison (Jump to) = false
asks_comparison (Either to) = true
asks_comparison (End a) = false

abbrev pub lacks_comparison : Instr → Shape → Bool
lacks_comparison i s = asks_comparison (flow i) && not s.compared

-- the tuple that a function takes
abbrev pub is_tuple_of : Function → List Kind → Bool
is_tuple_of Strlen (Text ∷ []) = true
is_tuple_of Strlen kinds = false
is_tuple_of Strjoin (Text ∷ Text ∷ []) = true
is_tuple_of Strjoin kinds = false

abbrev pub is_some_tuple : List Kind → Bool
is_some_tuple [] = false
is_some_tuple (k ∷ ks) = true

-- an instruction can take the tuple
abbrev pub takes_by : TupleNeed → List Kind → Bool
takes_by AnyTuple tuple = true
takes_by WithRoom tuple = has_room tuple
takes_by Filled tuple = is_some_tuple tuple
takes_by (TupleOf f) tuple = is_tuple_of f tuple

abbrev pub takes_tuple : Instr → List Kind → Bool
takes_tuple i tuple = takes_by (row_of i).tuple tuple
