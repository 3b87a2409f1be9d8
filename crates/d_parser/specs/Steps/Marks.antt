-- What marks do before and after an operand, and which one is at the front.
use Rattle.std.specs.Prelude.{ℕ, Bool, false, List, [], ◌∷◌}
pub use Rattle.d_parser.specs.Symbols.{same_mark}
use Rattle.d_parser.specs.Vocabulary.{Mark, Token, TokenKind, UnaryOperator, Step, Prefix, Follow}
use Rattle.d_parser.specs.{Vocabulary.BinaryOperator, Marks.mark_and_level}
use Rattle.d_parser.specs.declared.operators.BinaryOperator.TheVariants as binary
use Rattle.d_parser.specs.declared.operators.AssignOperator.TheVariants as assign
use Rattle.d_parser.specs.declared.operators.LogicOperator.TheVariants as logic
use Rattle.d_values.specs.declared.operators.ArithmeticOperator.TheVariants as arithmetic
use Rattle.d_values.specs.declared.operators.ShiftOperator.TheVariants as shift
use Rattle.d_values.specs.declared.operators.ComparisonOperator.TheVariants as comparison

-- how tightly an operator between two operands binds
abbrev pub level_of : BinaryOperator → ℕ
level_of op = (mark_and_level op).1

-- what a mark before an operand does
abbrev pub prefix_of : Mark → Prefix
prefix_of Mark.Not = Prefix.Unary UnaryOperator.Not
prefix_of Mark.Tilde = Prefix.Unary UnaryOperator.Complement
prefix_of Mark.Minus = Prefix.Unary UnaryOperator.Negate
prefix_of Mark.Plus = Prefix.Unary UnaryOperator.Keep
prefix_of Mark.Increment = Prefix.Step Step.Increment
prefix_of Mark.Decrement = Prefix.Step Step.Decrement
prefix_of mark = Prefix.Other

-- what a mark after an operand does
abbrev pub follow_of : Mark → Follow
follow_of Mark.Star = Follow.Infix (binary.Arithmetic arithmetic.Multiply)
follow_of Mark.Slash = Follow.Infix (binary.Arithmetic arithmetic.Divide)
follow_of Mark.Percent = Follow.Infix (binary.Arithmetic arithmetic.Remainder)
follow_of Mark.Plus = Follow.Infix (binary.Arithmetic arithmetic.Add)
follow_of Mark.Minus = Follow.Infix (binary.Arithmetic arithmetic.Subtract)
follow_of Mark.ShiftLeft = Follow.Infix (binary.Shift shift.Left)
follow_of Mark.ShiftRight = Follow.Infix (binary.Shift shift.Right)
follow_of Mark.Less = Follow.Infix (binary.Compare comparison.Less)
follow_of Mark.LessEqual = Follow.Infix (binary.Compare comparison.LessEqual)
follow_of Mark.Greater = Follow.Infix (binary.Compare comparison.Greater)
follow_of Mark.GreaterEqual = Follow.Infix (binary.Compare comparison.GreaterEqual)
follow_of Mark.Equal = Follow.Infix (binary.Compare comparison.Equal)
follow_of Mark.NotEqual = Follow.Infix (binary.Compare comparison.NotEqual)
follow_of Mark.And = Follow.Infix (binary.Arithmetic arithmetic.BitAnd)
follow_of Mark.Xor = Follow.Infix (binary.Arithmetic arithmetic.BitXor)
follow_of Mark.Or = Follow.Infix (binary.Arithmetic arithmetic.BitOr)
follow_of Mark.AndAnd = Follow.Infix (binary.Logic logic.And)
follow_of Mark.XorXor = Follow.Infix (binary.Logic logic.Xor)
follow_of Mark.OrOr = Follow.Infix (binary.Logic logic.Or)
follow_of Mark.Assign = Follow.Assign assign.Set
follow_of Mark.AddAssign = Follow.Assign (assign.Arithmetic arithmetic.Add)
follow_of Mark.SubtractAssign = Follow.Assign (assign.Arithmetic arithmetic.Subtract)
follow_of Mark.MultiplyAssign = Follow.Assign (assign.Arithmetic arithmetic.Multiply)
follow_of Mark.DivideAssign = Follow.Assign (assign.Arithmetic arithmetic.Divide)
follow_of Mark.RemainderAssign = Follow.Assign (assign.Arithmetic arithmetic.Remainder)
follow_of Mark.AndAssign = Follow.Assign (assign.Arithmetic arithmetic.BitAnd)
follow_of Mark.OrAssign = Follow.Assign (assign.Arithmetic arithmetic.BitOr)
follow_of Mark.XorAssign = Follow.Assign (assign.Arithmetic arithmetic.BitXor)
follow_of Mark.ShiftLeftAssign = Follow.Assign (assign.Shift shift.Left)
follow_of Mark.ShiftRightAssign = Follow.Assign (assign.Shift shift.Right)
follow_of Mark.Increment = Follow.Step Step.Increment
follow_of Mark.Decrement = Follow.Step Step.Decrement
follow_of Mark.Question = Follow.Question
follow_of Mark.OpenBracket = Follow.Bracket
follow_of Mark.OpenParenthesis = Follow.Parenthesis
follow_of mark = Follow.Other

-- what the first token does to an operand before it
abbrev pub follow_kind : TokenKind → Follow
follow_kind (TokenKind.Mark mark) = follow_of mark
follow_kind t = Follow.Other

abbrev pub follow_at : List Token → Follow
follow_at [] = Follow.Other
follow_at (t ∷ ts) = follow_kind t.kind

-- the first token is the mark
abbrev pub kind_is : Mark → TokenKind → Bool
kind_is mark (TokenKind.Mark found) = same_mark found mark
kind_is mark t = false

abbrev pub is_at : Mark → List Token → Bool
is_at mark [] = false
is_at mark (t ∷ ts) = kind_is mark t.kind

abbrev pub tail : List Token → List Token
tail [] = []
tail (t ∷ ts) = ts
