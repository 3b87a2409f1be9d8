-- How each mark is spelled, and in which places it is one.
-- Source: Dynamic Tracing Guide, "Types, Operators, and Expressions".
use Rattle.std.specs.Prelude.{ℕ, List, [], ◌∷◌, Option, codes}
use Rattle.std.specs.{Str.bytes_eq, Map.lookup}
use Rattle.d_lexer.specs.Vocabulary.{Mark, Place, Head, Declaration, Predicate, Body}
use Rattle.d_lexer.specs.declared.token.Mark.TheVariants as mark

-- the marks, but for slashes, outside the head
abbrev pub marks : List (List ℕ × Mark)
marks =
    (codes "<<=", mark.ShiftLeftAssign) ∷ (codes ">>=", mark.ShiftRightAssign)
    ∷ (codes "->", mark.Arrow) ∷ (codes "++", mark.Increment) ∷ (codes "--", mark.Decrement)
    ∷ (codes "<<", mark.ShiftLeft) ∷ (codes ">>", mark.ShiftRight) ∷ (codes "<=", mark.LessEqual)
    ∷ (codes ">=", mark.GreaterEqual) ∷ (codes "==", mark.Equal) ∷ (codes "!=", mark.NotEqual)
    ∷ (codes "&&", mark.AndAnd) ∷ (codes "||", mark.OrOr) ∷ (codes "^^", mark.XorXor)
    ∷ (codes "+=", mark.AddAssign) ∷ (codes "-=", mark.SubtractAssign)
    ∷ (codes "*=", mark.MultiplyAssign) ∷ (codes "/=", mark.DivideAssign)
    ∷ (codes "%=", mark.RemainderAssign) ∷ (codes "&=", mark.AndAssign)
    ∷ (codes "|=", mark.OrAssign) ∷ (codes "^=", mark.XorAssign) ∷ (codes "+", mark.Plus)
    ∷ (codes "-", mark.Minus) ∷ (codes "*", mark.Star) ∷ (codes "%", mark.Percent)
    ∷ (codes "&", mark.And) ∷ (codes "|", mark.Or) ∷ (codes "^", mark.Xor)
    ∷ (codes "~", mark.Tilde) ∷ (codes "<", mark.Less) ∷ (codes ">", mark.Greater)
    ∷ (codes "!", mark.Not) ∷ (codes "?", mark.Question) ∷ (codes ":", mark.Colon)
    ∷ (codes "=", mark.Assign) ∷ (codes "(", mark.OpenParenthesis)
    ∷ (codes ")", mark.CloseParenthesis) ∷ (codes "[", mark.OpenBracket)
    ∷ (codes "]", mark.CloseBracket) ∷ (codes "{", mark.OpenBrace)
    ∷ (codes "}", mark.CloseBrace) ∷ (codes ",", mark.Comma) ∷ (codes ";", mark.Semicolon) ∷ []

-- the marks of a place; in a predicate a slash is the closing one until the next token says that it
-- is not
abbrev pub marks_in : Place → List (List ℕ × Mark)
marks_in Head =
    (codes ",", mark.Comma) ∷ (codes "/", mark.Slash) ∷ (codes "{", mark.OpenBrace)
    ∷ (codes "}", mark.CloseBrace) ∷ (codes ";", mark.Semicolon) ∷ []
marks_in Declaration = (codes "/", mark.Slash) ∷ marks
marks_in Predicate = (codes "/", mark.ClosingSlash) ∷ marks
marks_in Body = (codes "/", mark.Slash) ∷ marks

-- the mark of these bytes in this place
unfoldable pub mark_of : Place → List ℕ → Option Mark
mark_of p bytes = lookup (bytes_eq bytes) (marks_in p)
