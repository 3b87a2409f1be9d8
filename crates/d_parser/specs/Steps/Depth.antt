-- Depth token by token: the function on lists that leads from `Limits` to the code.
use Rattle.std.specs.Prelude.{◌-◌, nat_lt, ℕ, suc, Bool, false, ◌||◌, if◌then◌else◌, List, [], ◌∷◌}
use Rattle.d_lexer.specs.declared.token.Token.{Token}
use Rattle.d_lexer.specs.declared.token.TokenKind.{TokenKind}
use Rattle.d_parser.specs.declared.limits.TheConstants.{MAX_OPEN, MAX_IN_A_ROW}
use Rattle.d_parser.specs.Limits.{opens, closes, ends_row}

-- the brackets that are open after a token; one that closes nothing changes nothing
abbrev pub open_after : TokenKind → ℕ → ℕ
open_after t before = if opens t then suc before else if closes t then before - 1 else before

-- the tokens in a row up to this one
abbrev pub row_with : TokenKind → ℕ → ℕ
row_with t before = if ends_row t then 0 else suc before

-- at some token more are open, or more are in a row, than may be; if none are open before, this is
-- IsDeep
unfoldable pub is_deep : ℕ → ℕ → List Token → Bool
is_deep open_before row [] = false
is_deep open_before row (t ∷ ts) =
    nat_lt MAX_OPEN (open_after t.kind open_before) || nat_lt MAX_IN_A_ROW (row_with t.kind row)
    || is_deep (open_after t.kind open_before) (row_with t.kind row) ts
