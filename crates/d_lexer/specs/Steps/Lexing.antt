-- What the functions of the scanner return, by the tokens from left to right.
use Rattle.std.specs.Prelude.{◌≡◌, ℕ, ◌⊎◌, List, ◌++◌, Result, Ok, Err, Bool, true, false}
use Rattle.std.specs.Prelude.{if◌then◌else◌}
use Rattle.d_lexer.specs.declared.{token.Token.Token, place.Place.Place}
use Rattle.d_lexer.specs.declared.fault.LexFault.{LexFault}
use Rattle.d_lexer.specs.declared.fault.LexFault.TheVariants as faults
use Rattle.d_lexer.specs.Lexing.{settle}
use Rattle.d_lexer.specs.Steps.Scan.{Scanned, TokensEnd, Clean, Bad}
use Rattle.d_lexer.specs.Vocabulary.{TokenKind, Mark}

-- the token is a slash that was read as the closing one
abbrev pub is_closing : TokenKind → Bool
is_closing (TokenKind.Mark Mark.ClosingSlash) = true
is_closing t = false

-- the token is an opening brace
abbrev pub is_brace : TokenKind → Bool
is_brace (TokenKind.Mark Mark.OpenBrace) = true
is_brace t = false

-- a closing slash is made a division
abbrev pub open_kind : TokenKind → TokenKind
open_kind (TokenKind.Mark Mark.ClosingSlash) = TokenKind.Mark Mark.Slash
open_kind t = t

-- a token, if an opening brace comes next or doesn't
abbrev pub settle_token : Token → Bool → Token
settle_token t brace = if brace then t else record t { kind = open_kind t.kind }

-- the fault at which reading ends, unless memory was refused
abbrev pub Stops : LexFault → TokensEnd → Type 0
Stops fault end = (fault ≡ faults.Memory) ⊎ (end ≡ Bad fault)

-- what was read so far, and what comes
abbrev pub with_tokens : List Token → Scanned → Scanned
with_tokens ts s = (ts ++ s.0, s.1)

-- what one step does: the tokens before it and after it, the result, and what the bytes had and
-- have
abbrev pub StepGives : (old new : List Token) → Result (Place × ℕ) LexFault → Scanned
    → (ℕ → Place → Scanned) → Type 0
StepGives old new (Ok r) s go = with_tokens new (go r.1 r.0) ≡ with_tokens old s
StepGives old new (Err e) s go = Stops e s.1

-- all the bytes read, or a stop
abbrev pub Answers : {X : Type 0} → (X → List Token) → Result X LexFault → Scanned → Type 0
Answers view (Ok ts) s = s ≡ (view ts, Clean)
Answers view (Err e) s = Stops e s.1

-- what the scan gives, with the slashes settled
abbrev pub Lexed : {X : Type 0} → (X → List Token) → Result X LexFault → Scanned → Type 0
Lexed view (Ok x) s = (settle s.0 ≡ view x) × (s.1 ≡ Clean)
Lexed view (Err e) s = Stops e s.1
