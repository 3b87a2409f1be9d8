-- The numbers of a script's tokens are small.
use Rattle.std.proofs.Common.{◌≡◌, ◌<◌, ◌^◌, ℕ, List, [], ◌∷◌, sym, subst}
use Rattle.d_lexer.specs.declared.token.Mark.TheVariants as m
use Rattle.d_lexer.specs.declared.token.Token.{Token}
use Rattle.d_lexer.specs.declared.token.TokenKind.{TokenKind}
use Rattle.d_lexer.specs.declared.token.TokenKind.TheVariants as kind
use Rattle.d_lexer.specs.declared.token.Suffix.{Suffix}
use Rattle.d_lexer.specs.declared.place.Place.{Place}
use Rattle.d_lexer.specs.declared.place.Place.TheVariants.{Head, Declaration, Predicate, Body}
use Rattle.d_lexer.specs.declared.position.Position.{Position}
use Rattle.d_lexer.specs.Places.{first_position, place_after}
use Rattle.d_lexer.specs.Tokens.{Past, here, past, SpellsToken, Lexes}
use Rattle.d_lexer.specs.Lexing.{settled_kind, settle, AreTokens}
use Rattle.d_lexer.specs.Small.{HasSmallNumber, HaveSmallNumbers}

number_small : (p : Place) (own rest : List ℕ) (n : ℕ) (s : Suffix) → SpellsToken p own rest (kind.Number n s) → n < 2 ^ 64
number_small Head own rest n s h = absurd h
number_small Declaration own rest n s h = h.0.fits
number_small Predicate own rest n s h = h.0.fits
number_small Body own rest n s h = h.0.fits

spelled_small : (p : Place) (own rest : List ℕ) (k : TokenKind) → SpellsToken p own rest k → HasSmallNumber k
spelled_small p own rest (kind.Number n s) h = number_small p own rest n s h
spelled_small p own rest (kind.DescriptionRun w) h = tt
spelled_small p own rest (kind.Word w) h = tt
spelled_small p own rest (kind.AggregationName w) h = tt
spelled_small p own rest (kind.TextConstant w) h = tt
spelled_small p own rest (kind.Mark k) h = tt

later : (p : Place) (Then : Position → List ℕ → Type 0) (P : Type 0) → ((q : Position) (z : List ℕ) → Then q z → P) →
    {pos : Position} {bytes : List ℕ} → Past p Then pos bytes → P
later p Then P k (here h) = k _ _ h
later p Then P k (past own rest cut piece more) = later p Then P k more

lexed_small : (ts : List Token) (End : Place → Position → List ℕ → Type 0) (p : Place) (pos : Position) (bytes : List ℕ) → Lexes End p pos bytes ts → HaveSmallNumbers ts
lexed_small [] End p pos bytes h = tt
lexed_small (t ∷ ts) End p pos bytes h =
    later p _ (HaveSmallNumbers (t ∷ ts)) (λ q z e. (spelled_small p e.0 e.1 t.kind e.3, lexed_small ts End (place_after p t.kind) _ e.1 e.7)) h

settled_small : (k : TokenKind) (ks : List TokenKind) → HasSmallNumber k → HasSmallNumber (settled_kind k ks)
settled_small (kind.Mark m.ClosingSlash) [] h = tt
settled_small (kind.Mark m.ClosingSlash) (kind.Mark m.OpenBrace ∷ ks) h = tt
settled_small (kind.Mark m.ClosingSlash) (j ∷ ks) h = tt
settled_small k ks h = h

settle_small : (ts : List Token) → HaveSmallNumbers ts → HaveSmallNumbers (settle ts)
settle_small [] h = tt
settle_small (t ∷ ts) h = (settled_small t.kind _ h.0, settle_small ts h.1)

pub tokens_small : (bytes : List ℕ) (ts : List Token) → AreTokens bytes ts → HaveSmallNumbers ts
tokens_small bytes ts a = subst HaveSmallNumbers (sym a.2) (settle_small a.0 (lexed_small a.0 (λ p pos rest. rest ≡ []) Head first_position bytes a.1))
