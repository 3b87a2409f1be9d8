-- What operators make of typed operands, as the code does it.
use Rattle.std.specs.Prelude.{Option, Some, None}
use Rattle.d_types.specs.Vocabulary.{Int, Text, UnaryOperator, BinaryOperator, DType, promoted_of}
use Rattle.d_types.specs.Vocabulary.{common_of, Operation, BinaryOperator}
use Rattle.d_types.specs.Typed.{Typed}
use Rattle.d_types.specs.Operators.{conversion_node}

-- a value of the first type as one of the second: integers are converted, texts stay
abbrev pub as_type : DType → DType → Typed → Option Typed
as_type (Int t) (Int u) x = Some (conversion_node t u x)
as_type Text Text x = Some x
as_type _ _ x = None

-- `~ - +` work in the promoted type, and so does `!`, whose value is an int
abbrev pub unary : UnaryOperator → DType → Typed → Option Typed
unary op (Int t) x = Some (Typed.Unary op (promoted_of t) (conversion_node t (promoted_of t) x))
unary op Text x = None

-- an operator between two operands
abbrev pub binary : BinaryOperator → DType → DType → Typed → Typed → Option Typed
binary (BinaryOperator.Arithmetic op) (Int t) (Int u) x y =
    Some (Typed.Operate (Operation.Arithmetic op (common_of t u))
    (conversion_node t (common_of t u) x)
    (conversion_node u (common_of t u) y))
binary (BinaryOperator.Shift op) (Int t) (Int u) x y =
    Some (Typed.Operate (Operation.Shift op (promoted_of t))
    (conversion_node t (promoted_of t) x) y)
binary (BinaryOperator.Compare op) (Int t) (Int u) x y =
    Some (Typed.Compare op (common_of t u) (conversion_node t (common_of t u) x)
    (conversion_node u (common_of t u) y))
binary (BinaryOperator.Compare op) Text Text x y = Some (Typed.CompareText op x y)
binary (BinaryOperator.Logic op) (Int t) (Int u) x y = Some (Typed.Logic op x y)
binary _ _ _ x y = None

-- `x ? y : z`
abbrev pub choice : DType → DType → DType → Typed → Typed → Typed → Option Typed
choice (Int c) (Int t) (Int u) x y z =
    Some (Typed.Choice (Int (common_of t u)) x (conversion_node t (common_of t u) y)
    (conversion_node u (common_of t u) z))
choice (Int c) Text Text x y z = Some (Typed.Choice Text x y z)
choice _ _ _ x y z = None
