-- What marks do agrees with the marks of operators.
use Rattle.std.proofs.Common.{◌≡◌, refl, sym, ap, ◌∙◌}
use Rattle.d_lexer.specs.declared.token.Mark.{Mark}
use Rattle.d_lexer.specs.declared.token.Mark.TheVariants as m
use Rattle.d_parser.specs.declared.operators.AssignOperator.{AssignOperator}
use Rattle.d_parser.specs.declared.operators.AssignOperator.TheVariants as a
use Rattle.d_parser.specs.declared.operators.BinaryOperator.{BinaryOperator}
use Rattle.d_parser.specs.declared.operators.BinaryOperator.TheVariants as b
use Rattle.d_parser.specs.declared.operators.LogicOperator.TheVariants as lo
use Rattle.d_values.specs.declared.operators.ArithmeticOperator.TheVariants as ar
use Rattle.d_values.specs.declared.operators.ShiftOperator.TheVariants as sh
use Rattle.d_values.specs.declared.operators.ComparisonOperator.TheVariants as cm
use Rattle.d_parser.specs.declared.operators.Step.{Step}
use Rattle.d_parser.specs.declared.operators.Step.TheVariants as s
use Rattle.d_parser.specs.declared.operators.UnaryOperator.{UnaryOperator}
use Rattle.d_parser.specs.declared.operators.UnaryOperator.TheVariants as u
use Rattle.d_parser.specs.declared.marks.Prefix.{Prefix}
use Rattle.d_parser.specs.declared.marks.Prefix.TheVariants as p
use Rattle.d_parser.specs.declared.marks.Follow.{Follow}
use Rattle.d_parser.specs.declared.marks.Follow.TheVariants as f
use Rattle.d_parser.specs.Marks.{assign_mark, unary_mark, step_mark}
use Rattle.d_parser.specs.Symbols.{binary_mark}
use Rattle.d_parser.specs.Steps.Marks.{prefix_of, follow_of}

pub unary_prefix : (op : UnaryOperator) → prefix_of (unary_mark op) ≡ p.Unary op
unary_prefix u.Not = refl
unary_prefix op = refl

pub step_prefix : (step : Step) → prefix_of (step_mark step) ≡ p.Step step
step_prefix s.Increment = refl
step_prefix s.Decrement = refl

pub step_follow : (step : Step) → follow_of (step_mark step) ≡ f.Step step
step_follow s.Increment = refl
step_follow s.Decrement = refl

pub assign_follow : (op : AssignOperator) → follow_of (assign_mark op) ≡ f.Assign op
assign_follow a.Set = refl
assign_follow (a.Arithmetic ar.Multiply) = refl
assign_follow (a.Shift sh.Left) = refl
assign_follow op = refl

pub binary_follow : (op : BinaryOperator) → follow_of (binary_mark op) ≡ f.Infix op
binary_follow (b.Arithmetic ar.Multiply) = refl
binary_follow (b.Shift sh.Left) = refl
binary_follow (b.Compare cm.Less) = refl
binary_follow (b.Logic lo.And) = refl
binary_follow op = refl

-- ---- the mark of what is done; for what marks do not do, the mark that is given

abbrev pub prefix_mark : Prefix → Mark → Mark
prefix_mark (p.Unary op) mark = unary_mark op
prefix_mark (p.Step step) mark = step_mark step
prefix_mark p.Other mark = mark

pub prefix_mark_is : (mark : Mark) → prefix_mark (prefix_of mark) mark ≡ mark
prefix_mark_is m.Not = refl
prefix_mark_is mark = refl

abbrev pub follow_mark : Follow → Mark → Mark
follow_mark (f.Infix op) mark = binary_mark op
follow_mark (f.Assign op) mark = assign_mark op
follow_mark (f.Step step) mark = step_mark step
follow_mark f.Question mark = m.Question
follow_mark f.Bracket mark = m.OpenBracket
follow_mark f.Parenthesis mark = m.OpenParenthesis
follow_mark f.Other mark = mark

follow_mark_is : (mark : Mark) → follow_mark (follow_of mark) mark ≡ mark
follow_mark_is m.Star = refl
follow_mark_is mark = refl

-- the mark that does this
abbrev pub sign_of : Follow → Mark
sign_of follow = follow_mark follow m.Comma

any_default : (follow : Follow) (mark : Mark) → (follow ≡ f.Other → ⊥) → follow_mark follow mark ≡ sign_of follow
any_default f.Other mark other = absurd (other refl)
any_default follow mark other = refl

pub sign_is : (follow : Follow) (mark : Mark) → follow_of mark ≡ follow → (follow ≡ f.Other → ⊥) → mark ≡ sign_of follow
sign_is follow mark e other = sym (follow_mark_is mark) ∙ ap (λ x. follow_mark x mark) e ∙ any_default follow mark other
