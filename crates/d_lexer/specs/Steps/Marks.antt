-- The mark of some bytes, by their number: a table for each.
use Rattle.std.specs.Prelude.{ℕ, ◌&&◌, if◌then◌else◌, ◌==◌, List, [], ◌∷◌, Option, Some, None}
use Rattle.std.specs.Map.{lookup}
use Rattle.d_lexer.specs.Vocabulary.{Mark, Place, Head, Declaration, Predicate, Body}
use Rattle.d_lexer.specs.declared.token.Mark.TheVariants as mark

-- what a table holds for a byte
abbrev pub entry_of : {X : Type 0} → List (ℕ × X) → ℕ → Option X
entry_of entries b = lookup (λ c. b == c) entries

-- + - * / % & | ^ ~ < > ! ? : = ( ) [ ] { } , ;
abbrev pub singles : List (ℕ × Mark)
singles =
    (43, mark.Plus) ∷ (45, mark.Minus) ∷ (42, mark.Star) ∷ (47, mark.Slash)
    ∷ (37, mark.Percent) ∷ (38, mark.And) ∷ (124, mark.Or) ∷ (94, mark.Xor)
    ∷ (126, mark.Tilde) ∷ (60, mark.Less) ∷ (62, mark.Greater) ∷ (33, mark.Not)
    ∷ (63, mark.Question) ∷ (58, mark.Colon) ∷ (61, mark.Assign) ∷ (40, mark.OpenParenthesis)
    ∷ (41, mark.CloseParenthesis) ∷ (91, mark.OpenBracket) ∷ (93, mark.CloseBracket)
    ∷ (123, mark.OpenBrace) ∷ (125, mark.CloseBrace) ∷ (44, mark.Comma)
    ∷ (59, mark.Semicolon) ∷ []

-- , / { } ;
abbrev pub of_head : List (ℕ × Mark)
of_head =
    (44, mark.Comma) ∷ (47, mark.Slash) ∷ (123, mark.OpenBrace) ∷ (125, mark.CloseBrace)
    ∷ (59, mark.Semicolon) ∷ []

-- ++ -- << >> && || ^^
abbrev pub doubles : List (ℕ × Mark)
doubles =
    (43, mark.Increment) ∷ (45, mark.Decrement) ∷ (60, mark.ShiftLeft)
    ∷ (62, mark.ShiftRight) ∷ (38, mark.AndAnd) ∷ (124, mark.OrOr) ∷ (94, mark.XorXor) ∷ []

-- followed by =: <= >= == != += -= *= /= %= &= |= ^=
abbrev pub settings : List (ℕ × Mark)
settings =
    (60, mark.LessEqual) ∷ (62, mark.GreaterEqual) ∷ (61, mark.Equal) ∷ (33, mark.NotEqual)
    ∷ (43, mark.AddAssign) ∷ (45, mark.SubtractAssign) ∷ (42, mark.MultiplyAssign)
    ∷ (47, mark.DivideAssign) ∷ (37, mark.RemainderAssign) ∷ (38, mark.AndAssign)
    ∷ (124, mark.OrAssign) ∷ (94, mark.XorAssign) ∷ []

-- doubled and followed by =: <<= >>=
abbrev pub shift_marks : List (ℕ × Mark)
shift_marks = (60, mark.ShiftLeftAssign) ∷ (62, mark.ShiftRightAssign) ∷ []

-- followed by >: ->
abbrev pub arrows : List (ℕ × Mark)
arrows = (45, mark.Arrow) ∷ []

-- a mark of one byte; in a predicate a slash is the closing one until the next token says that it
-- is not
abbrev pub mark_one : Place → ℕ → Option Mark
mark_one Head a = entry_of of_head a
mark_one Declaration a = entry_of singles a
mark_one Predicate a = if a == 47 then Some mark.ClosingSlash else entry_of singles a
mark_one Body a = entry_of singles a

-- outside the head: a mark of two bytes
abbrev pub two_bytes : ℕ → ℕ → Option Mark
two_bytes a b =
    if b == 61 then entry_of settings a
    else (if a == b then entry_of doubles a
    else (if b == 62 then entry_of arrows a else None))

-- a mark of two bytes; the head has none
abbrev pub mark_two : Place → ℕ → ℕ → Option Mark
mark_two Head a b = None
mark_two Declaration a b = two_bytes a b
mark_two Predicate a b = two_bytes a b
mark_two Body a b = two_bytes a b

-- outside the head: a mark of three bytes
abbrev pub three_bytes : ℕ → ℕ → ℕ → Option Mark
three_bytes a b c = if c == 61 && a == b then entry_of shift_marks a else None

-- a mark of three bytes; the head has none
abbrev pub mark_three : Place → ℕ → ℕ → ℕ → Option Mark
mark_three Head a b c = None
mark_three Declaration a b c = three_bytes a b c
mark_three Predicate a b c = three_bytes a b c
mark_three Body a b c = three_bytes a b c

-- the mark of these bytes in this place
unfoldable pub mark_by : Place → List ℕ → Option Mark
mark_by p [] = None
mark_by p (a ∷ []) = mark_one p a
mark_by p (a ∷ b ∷ []) = mark_two p a b
mark_by p (a ∷ b ∷ c ∷ []) = mark_three p a b c
mark_by p (a ∷ b ∷ c ∷ d ∷ z) = None
