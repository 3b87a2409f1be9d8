-- The marks of operators, and how tightly those between two operands bind.
-- Source: Dynamic Tracing Guide, "Precedence".
use Rattle.std.specs.Prelude.{ℕ}
use Rattle.d_parser.specs.Vocabulary.{Mark, UnaryOperator, Step, BinaryOperator, AssignOperator}
use Rattle.d_parser.specs.declared.operators.BinaryOperator.TheVariants as binary
use Rattle.d_parser.specs.declared.operators.AssignOperator.TheVariants as assign
use Rattle.d_parser.specs.declared.operators.LogicOperator.TheVariants as logic
use Rattle.d_values.specs.declared.operators.ArithmeticOperator.TheVariants as arithmetic
use Rattle.d_values.specs.declared.operators.ShiftOperator.TheVariants as shift
use Rattle.d_values.specs.declared.operators.ComparisonOperator.TheVariants as comparison
use Rattle.d_parser.specs.Vocabulary.{OR, XOR, AND, BIT_OR, BIT_XOR, BIT_AND, EQUALITY, RELATIONAL}
use Rattle.d_parser.specs.Vocabulary.{SHIFT, ADDITIVE, MULTIPLICATIVE}

-- the mark of an operator between two operands, and its level
abbrev pub mark_and_level : BinaryOperator → Mark × ℕ
mark_and_level (binary.Arithmetic arithmetic.Multiply) = (Mark.Star, MULTIPLICATIVE)
mark_and_level (binary.Arithmetic arithmetic.Divide) = (Mark.Slash, MULTIPLICATIVE)
mark_and_level (binary.Arithmetic arithmetic.Remainder) = (Mark.Percent, MULTIPLICATIVE)
mark_and_level (binary.Arithmetic arithmetic.Add) = (Mark.Plus, ADDITIVE)
mark_and_level (binary.Arithmetic arithmetic.Subtract) = (Mark.Minus, ADDITIVE)
mark_and_level (binary.Shift shift.Left) = (Mark.ShiftLeft, SHIFT)
mark_and_level (binary.Shift shift.Right) = (Mark.ShiftRight, SHIFT)
mark_and_level (binary.Compare comparison.Less) = (Mark.Less, RELATIONAL)
mark_and_level (binary.Compare comparison.LessEqual) = (Mark.LessEqual, RELATIONAL)
mark_and_level (binary.Compare comparison.Greater) = (Mark.Greater, RELATIONAL)
mark_and_level (binary.Compare comparison.GreaterEqual) = (Mark.GreaterEqual, RELATIONAL)
mark_and_level (binary.Compare comparison.Equal) = (Mark.Equal, EQUALITY)
mark_and_level (binary.Compare comparison.NotEqual) = (Mark.NotEqual, EQUALITY)
mark_and_level (binary.Arithmetic arithmetic.BitAnd) = (Mark.And, BIT_AND)
mark_and_level (binary.Arithmetic arithmetic.BitXor) = (Mark.Xor, BIT_XOR)
mark_and_level (binary.Arithmetic arithmetic.BitOr) = (Mark.Or, BIT_OR)
mark_and_level (binary.Logic logic.And) = (Mark.AndAnd, AND)
mark_and_level (binary.Logic logic.Xor) = (Mark.XorXor, XOR)
mark_and_level (binary.Logic logic.Or) = (Mark.OrOr, OR)

-- `=`, or an operator's mark with `=` after it
abbrev pub assign_mark : AssignOperator → Mark
assign_mark assign.Set = Mark.Assign
assign_mark (assign.Arithmetic arithmetic.Add) = Mark.AddAssign
assign_mark (assign.Arithmetic arithmetic.Subtract) = Mark.SubtractAssign
assign_mark (assign.Arithmetic arithmetic.Multiply) = Mark.MultiplyAssign
assign_mark (assign.Arithmetic arithmetic.Divide) = Mark.DivideAssign
assign_mark (assign.Arithmetic arithmetic.Remainder) = Mark.RemainderAssign
assign_mark (assign.Arithmetic arithmetic.BitAnd) = Mark.AndAssign
assign_mark (assign.Arithmetic arithmetic.BitOr) = Mark.OrAssign
assign_mark (assign.Arithmetic arithmetic.BitXor) = Mark.XorAssign
assign_mark (assign.Shift shift.Left) = Mark.ShiftLeftAssign
assign_mark (assign.Shift shift.Right) = Mark.ShiftRightAssign

abbrev pub unary_mark : UnaryOperator → Mark
unary_mark UnaryOperator.Not = Mark.Not
unary_mark UnaryOperator.Complement = Mark.Tilde
unary_mark UnaryOperator.Negate = Mark.Minus
unary_mark UnaryOperator.Keep = Mark.Plus

abbrev pub step_mark : Step → Mark
step_mark Step.Increment = Mark.Increment
step_mark Step.Decrement = Mark.Decrement
