-- What the main loop keeps.
use Rattle.std.proofs.Common.{◌≡◌, ℕ, zero, suc, ◌+◌, ◌-◌, ◌<◌, ◌≤◌, List, [], ◌∷◌, ◌++◌, length}
use Rattle.std.proofs.Common.{take, drop, Result, Ok, Err, refl, sym, ap, subst, ◌∙◌, arith, rules}
use Rattle.std.proofs.Common.{append_assoc, length-append, length-drop}
use Rattle.std.proofs.lemmas.List.{append-nil}
use Rattle.std.specs.Prelude.{IfOk}
use Rattle.d_lexer.specs.declared.token.Token.{Token}
use Rattle.d_lexer.specs.declared.token.TokenKind.{TokenKind}
use Rattle.d_lexer.specs.declared.place.Place.{Place}
use Rattle.d_lexer.specs.declared.position.Position.{Position}
use Rattle.d_lexer.specs.declared.fault.Flaw.{Flaw}
use Rattle.d_lexer.specs.declared.fault.Stop.{Stop}
use Rattle.d_lexer.specs.declared.token.Front.{Front}
use Rattle.d_lexer.specs.declared.token.Front.TheVariants as front
use Rattle.d_lexer.specs.Places.{after_byte, position_after, place_after}
use Rattle.d_lexer.specs.Faults.{on_line}
use Rattle.d_lexer.specs.Steps.Scan.{TokensEnd, Clean, Bad, scan, front_at, Gives, FitsFront}
use Rattle.d_lexer.specs.Steps.Scan.{Scanned, with_first_token}
use Rattle.d_lexer.specs.Steps.Lexing.{with_tokens}
use Rattle.d_lexer.proofs.Base.{Split}
use Rattle.d_lexer.proofs.Sound.{FrontIs, front_sound}

split_within : {P : List ℕ → List ℕ → Type 0} (n : ℕ) (z : List ℕ) → Split P n z → n ≤ length z
split_within n z s = omega (arith, s.size, ap length s.is, length-append s.own s.rest)

fits_read : (p : Place) (pos : Position) (b : ℕ) (z : List ℕ) (x : Front) (r : Result Front Flaw) → r ≡ Ok x → FrontIs p pos b z r → FitsFront x (length z)
fits_read p pos b z (front.Gap n) r e h = let k : FrontIs p pos b z (Ok (front.Gap n)) = subst (FrontIs p pos b z) e h in split_within n z k
fits_read p pos b z (front.Token t n) r e h = let k : FrontIs p pos b z (Ok (front.Token t n)) = subst (FrontIs p pos b z) e h in split_within n z k

pub fits_of : (p : Place) (pos : Position) (b : ℕ) (z : List ℕ) (r : Result Front Stop) → Gives r (front_at p pos b z) → IfOk r (λ f. FitsFront f (length z))
fits_of p pos b z (Ok x) h = fits_read p pos b z x (front_at p pos b z) h (front_sound p pos b z)
fits_of p pos b z (Err e) h = search rules

pub scan_from : (n : ℕ) (p : Place) (pos : Position) (z : List ℕ) → n ≤ length z → scan n p pos z ≡ scan 0 p (position_after pos (take n z)) (drop n z)
unfolding scan
scan_from zero p pos z h = refl
scan_from (suc n) p pos [] h = absurd (omega arith)
scan_from (suc n) p pos (b ∷ z) h = scan_from n p (after_byte pos b) z (omega arith)

pub gap_step : (p : Place) (pos : Position) (b n : ℕ) (z : List ℕ) → front_at p pos b z ≡ Ok (front.Gap n) → scan 0 p pos (b ∷ z) ≡ scan n p (after_byte pos b) z
unfolding scan
gap_step p pos b n z e = rw e refl

pub token_step : (p : Place) (pos : Position) (b n : ℕ) (z : List ℕ) (t : TokenKind) → front_at p pos b z ≡ Ok (front.Token t n) →
    scan 0 p pos (b ∷ z) ≡ with_first_token (record { kind = t; start = pos.at; stop = pos.at + suc n; line = pos.line }) (scan n (place_after p t) (after_byte pos b) z)
unfolding scan
token_step p pos b n z t e = rw e refl

pub fault_step : (p : Place) (pos : Position) (b : ℕ) (z : List ℕ) (g : Flaw) → front_at p pos b z ≡ Err g → (scan 0 p pos (b ∷ z)).1 ≡ Bad (on_line g pos.line)
unfolding scan
fault_step p pos b z g e = rw e refl

pub empty_step : (p : Place) (pos : Position) → scan 0 p pos [] ≡ ([], Clean)
unfolding scan
empty_step p pos = refl

abbrev done : List Token → TokensEnd → Scanned
done xs e = (xs, e)

pub joined_push : (ts : List Token) (t : Token) (s : Scanned) → with_tokens (ts ++ t ∷ []) s ≡ with_tokens ts (with_first_token t s)
joined_push ts t s = ap (λ (xs : List Token). done xs s.1) (append_assoc ts (t ∷ []) s.0)

empty_at : (p : Place) (pos : Position) (z : List ℕ) → length z < 1 → scan 0 p pos z ≡ ([], Clean)
empty_at p pos [] h = empty_step p pos
empty_at p pos (b ∷ z) h = absurd (omega arith)

pub finish : (ts : List Token) (p : Place) (pos : Position) (z : List ℕ) (s : Scanned) → length z < 1 → with_tokens ts (scan 0 p pos z) ≡ s → s ≡ (ts, Clean)
finish ts p pos z s h e = sym e ∙ ap (with_tokens ts) (empty_at p pos z h) ∙ ap (λ (xs : List Token). done xs Clean) (append-nil ts)

pub token_goes : (old : List Token) (p : Place) (pos : Position) (b n : ℕ) (z : List ℕ) (token : Token) (new : List Token) → front_at p pos b z ≡ Ok (front.Token token.kind n) →
    token.start ≡ pos.at → token.stop ≡ pos.at + n + 1 → token.line ≡ pos.line → new ≡ old ++ token ∷ [] →
    with_tokens new (scan n (place_after p token.kind) (after_byte pos b) z) ≡ with_tokens old (scan 0 p pos (b ∷ z))
token_goes old p pos b n z token new e e1 e2 e3 is =
    let stop : pos.at + suc n ≡ token.stop = omega arith in
    let same : record { kind = token.kind; start = pos.at; stop = pos.at + suc n; line = pos.line } ≡ token = rw (stop, ← e1, ← e3) refl in
    let then = scan n (place_after p token.kind) (after_byte pos b) z in
    ap (λ (ts : List Token). with_tokens ts then) is ∙ joined_push old token then ∙ ap (with_tokens old) (sym (token_step p pos b n z token.kind e ∙ ap (λ (l : Token). with_first_token l then) same))

take_whole : (k : ℕ) (w : List ℕ) → k ≡ length w → take k w ≡ w
take_whole k [] e = let z : k ≡ 0 = e in rw z refl
take_whole zero (b ∷ w) e = absurd (omega arith)
take_whole (suc k) (b ∷ w) e = ap (λ (xs : List ℕ). b ∷ xs) (take_whole k w (omega arith))

pub jumped : (n : ℕ) (q : Place) (here there pos : Position) (z : List ℕ) → n ≤ length z → here ≡ position_after pos (take n z) → pos ≡ there → scan 0 q here (take (length z - n) (drop n z)) ≡ scan n q there z
jumped n q here there pos z h e f =
    let k : length z - n ≡ length (drop n z) = sym (length-drop n z) in
    rw (take_whole (length z - n) (drop n z) k) (ap (λ (x : Position). scan 0 q x (drop n z)) e ∙ sym (scan_from n q pos z h) ∙ ap (λ (x : Position). scan n q x z) f)
