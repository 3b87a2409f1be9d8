-- How deep and how long tokens may be, and how many clauses there may be.
-- Source: docs/GRAMMAR.md, "Grammar".
use Rattle.std.specs.Prelude.{◌≡◌, ◌<◌, ◌+◌, ◌⊎◌, ℕ, Bool, false, List, [], ◌∷◌, ◌++◌, length}
use Rattle.std.specs.Prelude.{count_by, Result, Ok, Err}
use Rattle.std.specs.List.{list_any}
use Rattle.d_parser.specs.Symbols.{same_mark}
use Rattle.d_parser.specs.Vocabulary.{Mark, Token, TokenKind, ParseFault, MAX_OPEN, MAX_IN_A_ROW}
use Rattle.d_parser.specs.Vocabulary.{MAX_CLAUSES}

-- a mark of these
abbrev pub is_among : List Mark → TokenKind → Bool
is_among marks (TokenKind.Mark mark) = list_any (same_mark mark) marks
is_among marks t = false

abbrev pub opens : TokenKind → Bool
opens = is_among (Mark.OpenParenthesis ∷ Mark.OpenBracket ∷ [])

abbrev pub closes : TokenKind → Bool
closes = is_among (Mark.CloseParenthesis ∷ Mark.CloseBracket ∷ [])

abbrev pub ends_row : TokenKind → Bool
ends_row = is_among (Mark.Semicolon ∷ Mark.OpenBrace ∷ Mark.CloseBrace ∷ [])

abbrev pub how_many : (TokenKind → Bool) → List Token → ℕ
how_many is ts = count_by (λ t. is t.kind) ts

-- Somewhere in the list a stretch of tokens opens over 64 more brackets than it closes, or is over
-- 1,024 tokens long with no semicolon or brace.
pub record IsDeep (ts : List Token) : Type 0 where
  pub before : List Token
  pub stretch : List Token
  pub later : List Token
  pub is : ts ≡ before ++ stretch ++ later
  pub deep :
      (MAX_OPEN + how_many closes stretch < how_many opens stretch)
      ⊎ ((MAX_IN_A_ROW < length stretch) × (how_many ends_row stretch ≡ 0))

abbrev pub clauses : List Token → ℕ
clauses ts = how_many (is_among (Mark.OpenBrace ∷ [])) ts

-- TooDeep and TooManyClauses are reported only if that limit is passed
abbrev pub OnlyLimits : {X : Type 0} → List Token → Result X ParseFault → Type 0
OnlyLimits ts (Ok x) = Unit {0}
OnlyLimits ts (Err ParseFault.TooDeep) = IsDeep ts
OnlyLimits ts (Err ParseFault.TooManyClauses) = MAX_CLAUSES < clauses ts
OnlyLimits ts (Err (ParseFault.Syntax line)) = Unit {0}
OnlyLimits ts (Err ParseFault.Memory) = Unit {0}
