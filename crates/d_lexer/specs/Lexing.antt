-- The tokens of a script, and why it has none.
-- Source: Dynamic Tracing Guide, "D Program Structure".
use Rattle.std.specs.Prelude.{◌≡◌, ℕ, ◌<◌, ◌≤◌, ◌⊎◌, List, [], ◌∷◌, length, map}
use Rattle.d_lexer.specs.Vocabulary.{Token, TokenKind, Head, LexFault, Mark, MAX_BYTES}
use Rattle.d_lexer.specs.Places.{first_position}
use Rattle.d_lexer.specs.{Tokens.Lexes, Faults.IsFault}

-- ---- the closing slash of a predicate

-- what a token is before tokens of these kinds: a slash of a predicate is the closing one if an
-- opening brace comes next, and a division if not
abbrev pub settled_kind : TokenKind → List TokenKind → TokenKind
settled_kind (TokenKind.Mark Mark.ClosingSlash) (TokenKind.Mark Mark.OpenBrace ∷ later) =
    TokenKind.Mark Mark.ClosingSlash
settled_kind (TokenKind.Mark Mark.ClosingSlash) later = TokenKind.Mark Mark.Slash
settled_kind kind later = kind

-- the tokens, each slash settled
abbrev pub settle : List Token → List Token
settle [] = []
settle (t ∷ ts) = record t { kind = settled_kind t.kind (map (λ u. u.kind) ts) } ∷ settle ts

-- ---- tokens and fault

-- the tokens of all the bytes
abbrev pub AreTokens : List ℕ → List Token → Type 0
AreTokens bytes ts =
    (plain : List Token) × Lexes (λ p pos rest. rest ≡ []) Head first_position bytes plain
    × (ts ≡ settle plain)

-- what is wrong after the tokens that come before it
abbrev pub IsFirstFault : List ℕ → LexFault → Type 0
IsFirstFault bytes fault = (ts : List Token) × Lexes (IsFault fault) Head first_position bytes ts

-- the script is within the limit, and these are its tokens
abbrev pub IsLexed : List ℕ → List Token → Type 0
IsLexed bytes ts = (length bytes ≤ MAX_BYTES) × AreTokens bytes ts

-- the script is too long, or else this is its first fault
abbrev pub IsRefused : List ℕ → LexFault → Type 0
IsRefused bytes fault =
    ((fault ≡ LexFault.TooLong) × (MAX_BYTES < length bytes))
    ⊎ ((length bytes ≤ MAX_BYTES) × IsFirstFault bytes fault)

-- each script is one or the other
abbrev pub HasOne : List ℕ → Type 0
HasOne bytes =
    ((ts : List Token) × AreTokens bytes ts) ⊎ ((fault : LexFault) × IsFirstFault bytes fault)
