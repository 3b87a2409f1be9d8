-- What the loop of `settle` keeps.
use Rattle.std.proofs.Common.{if◌then◌else◌, true, map}
use Rattle.std.proofs.Common.{◌≡◌, ℕ, zero, suc, ◌<◌, ◌≤◌, Bool, false, List, [], ◌∷◌, length, refl}
use Rattle.std.proofs.Common.{sym, ap, ◌∙◌, arith}
use Rattle.std.specs.Prelude.{slice_index_or, slice_set}
use Rattle.d_lexer.specs.declared.token.Token.{Token}
use Rattle.d_lexer.specs.declared.token.TokenKind.{TokenKind}
use Rattle.d_lexer.specs.declared.token.TokenKind.TheVariants as kind
use Rattle.d_lexer.specs.declared.token.Mark.TheVariants as m
use Rattle.d_lexer.specs.Lexing.{settled_kind, settle}
use Rattle.d_lexer.specs.Steps.Lexing.{is_brace, open_kind, settle_token}

abbrev opens_body : List Token → Bool
opens_body [] = false
opens_body (t ∷ ts) = is_brace t.kind

-- whether the first of these tokens is an opening brace; where there are none the test says it
abbrev opens_or : ℕ → Bool → List Token → Bool
opens_or zero brace ts = brace
opens_or (suc n) brace ts = opens_body ts

-- the first n tokens settled, and those after them as they are
abbrev pub settle_first : ℕ → Bool → List Token → List Token
settle_first zero brace ts = ts
settle_first (suc n) brace [] = []
settle_first (suc n) brace (t ∷ ts) = settle_token t (opens_or n brace ts) ∷ settle_first n brace ts

-- a token is settled by the kind of the next
alone : (k : TokenKind) → open_kind k ≡ settled_kind k []
alone (kind.Mark m.ClosingSlash) = refl
alone k = refl

kept : (b : Bool) (k : TokenKind) → (if b then k else k) ≡ k
kept true k = refl
kept false k = refl

before_next : (k j : TokenKind) (ks : List TokenKind) → (if is_brace j then k else open_kind k) ≡ settled_kind k (j ∷ ks)
before_next (kind.Mark m.ClosingSlash) (kind.Mark m.OpenBrace) ks = refl
before_next (kind.Mark m.ClosingSlash) j ks = refl
before_next k j ks = kept (is_brace j) k

by_kind : (t : Token) (b : Bool) → settle_token t b ≡ record t { kind = if b then t.kind else open_kind t.kind }
by_kind t true = refl
by_kind t false = refl

pub settle_all : (ts : List Token) → settle_first (length ts) false ts ≡ settle ts
settle_all [] = refl
settle_all (t ∷ []) = ap (λ (k : TokenKind). record t { kind = k } ∷ []) (alone t.kind)
settle_all (t ∷ u ∷ ts) =
    let ks : List TokenKind = map (λ (t : Token). t.kind) ts in
    let settled : Token = record t { kind = settled_kind t.kind (u.kind ∷ ks) } in
    let first : settle_token t (is_brace u.kind) ≡ settled = by_kind t (is_brace u.kind) ∙ ap (λ (k : TokenKind). record t { kind = k }) (before_next t.kind u.kind ks) in
    ap (λ (x : Token). x ∷ settle_first (length (u ∷ ts)) false (u ∷ ts)) first ∙ ap (λ (xs : List Token). settled ∷ xs) (settle_all (u ∷ ts))

same_front : (n : ℕ) (ts : List Token) (t s : Token) → t ≡ slice_index_or ts n t → n < length ts → opens_or n (is_brace t.kind) (slice_set ts n s) ≡ opens_body ts
same_front n [] t s is within = absurd (omega arith)
same_front zero (u ∷ ts) t s is within = ap (λ (x : Token). is_brace x.kind) is
same_front (suc n) (u ∷ ts) t s is within = refl

settle_step : (n : ℕ) (brace : Bool) (ts : List Token) (t s : Token) → t ≡ slice_index_or ts n t → s ≡ settle_token t brace → n < length ts → settle_first n (is_brace t.kind) (slice_set ts n s) ≡ settle_first (suc n) brace ts
settle_step n brace [] t s is e within = absurd (omega arith)
settle_step zero brace (u ∷ ts) t s is e within = ap (λ (x : Token). x ∷ ts) (e ∙ ap (λ (x : Token). settle_token x brace) is)
settle_step (suc n) brace (u ∷ ts) t s is e within =
    rw (same_front n ts t s is (omega arith)) (ap (λ (xs : List Token). settle_token u (opens_body ts) ∷ xs) (settle_step n brace ts t s is e (omega arith)))

-- one more token settled, from the back
pub settle_back : (n i : ℕ) (brace next : Bool) (ts all : List Token) (t s : Token) → suc n ≡ i → i ≤ length ts → t ≡ slice_index_or ts n t →
    s ≡ settle_token (slice_index_or ts n t) brace → next ≡ is_brace (slice_index_or ts n t).kind → settle_first i brace ts ≡ all → settle_first n next (slice_set ts n s) ≡ all
settle_back n i brace next ts all t s one within is e b done =
    let s_is : s ≡ settle_token t brace = e ∙ ap (λ (x : Token). settle_token x brace) (sym is) in
    let next_is : next ≡ is_brace t.kind = b ∙ ap (λ (x : Token). is_brace x.kind) (sym is) in
    rw next_is (settle_step n brace ts t s is s_is (omega arith) ∙ ap (λ (k : ℕ). settle_first k brace ts) one ∙ done)
