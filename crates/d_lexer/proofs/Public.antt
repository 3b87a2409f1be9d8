-- What the results say of the relations.
use Rattle.std.proofs.Common.{◌≡◌, ◌⊎◌, ℕ, List, [], ◌∷◌, Result, Ok, Err, refl, sym, ap, subst}
use Rattle.std.proofs.Common.{◌∙◌, rules, inl, inr, zero, suc, ◌≤◌, arith, length}
use Rattle.std.specs.Prelude.{IfOk, IfErr, IsErrOf, IsErrAnd, MatchResult}
use Rattle.d_lexer.specs.declared.token.Token.{Token}
use Rattle.d_lexer.specs.declared.place.Place.{Place}
use Rattle.d_lexer.specs.declared.place.Place.TheVariants.{Head}
use Rattle.d_lexer.specs.declared.position.Position.{Position}
use Rattle.d_lexer.specs.declared.token.Front.{Front}
use Rattle.d_lexer.specs.declared.token.Front.TheVariants as front
use Rattle.d_lexer.specs.declared.fault.Flaw.{Flaw}
use Rattle.d_lexer.specs.declared.fault.Flaw.TheVariants as f
use Rattle.d_lexer.specs.Faults.{on_line}
use Rattle.d_lexer.specs.declared.fault.LexFault.{LexFault}
use Rattle.d_lexer.specs.declared.fault.LexFault.TheVariants as faults
use Rattle.d_lexer.specs.Places.{first_position, after_byte, place_after}
use Rattle.d_lexer.specs.Tokens.{Lexes}
use Rattle.d_lexer.specs.Steps.Scan.{Scanned, TokensEnd, Clean, Bad, scan, scan_by, front_at}
use Rattle.d_lexer.specs.Lexing.{settle, AreTokens, IsFirstFault, IsLexed, IsRefused, HasOne}
use Rattle.d_lexer.specs.Steps.Lexing.{Stops, Lexed}
use Rattle.d_lexer.proofs.{Base.EndsAs, Sound.whole_sound}
use Rattle.d_lexer.specs.Small.{HaveSmallNumbers}
use Rattle.d_lexer.proofs.Complete.{complete}
use Rattle.d_lexer.proofs.Small.{tokens_small}

abbrev Read : List ℕ → Scanned
Read bytes = scan 0 Head first_position bytes

ends_as : (bytes : List ℕ) (end : TokensEnd) → (Read bytes).1 ≡ end → Lexes (EndsAs end) Head first_position bytes (Read bytes).0
ends_as bytes end e = subst (λ (x : TokensEnd). Lexes (EndsAs x) Head first_position bytes (Read bytes).0) e (whole_sound Head first_position bytes)

clean_bad : (e : TokensEnd) (g : LexFault) → e ≡ Clean → e ≡ Bad g → ⊥
clean_bad e g a b = cc

bad_same : (e : TokensEnd) (g h : LexFault) → e ≡ Bad g → e ≡ Bad h → g ≡ h
bad_same e g h a b = cc

-- ---- what the relations say is what is read

tokens_read : (bytes : List ℕ) (ts : List Token) → AreTokens bytes ts → (ts ≡ settle (Read bytes).0) × ((Read bytes).1 ≡ Clean)
tokens_read bytes ts a =
    let e = complete a.0 Clean Head first_position bytes a.1 in
    (a.2 ∙ ap (λ (s : Scanned). settle s.0) (sym e), ap (λ (s : Scanned). s.1) e)

fault_read : (bytes : List ℕ) (g : LexFault) → IsFirstFault bytes g → (Read bytes).1 ≡ Bad g
fault_read bytes g a = ap (λ (s : Scanned). s.1) (complete a.0 (Bad g) Head first_position bytes a.1)

pub one_list : (bytes : List ℕ) (ts us : List Token) → AreTokens bytes ts → AreTokens bytes us → ts ≡ us
one_list bytes ts us a b = let e = tokens_read bytes ts a in let f = tokens_read bytes us b in e.0 ∙ sym f.0

pub one_fault : (bytes : List ℕ) (g h : LexFault) → IsFirstFault bytes g → IsFirstFault bytes h → g ≡ h
one_fault bytes g h a b = bad_same (Read bytes).1 g h (fault_read bytes g a) (fault_read bytes h b)

pub not_both : (bytes : List ℕ) (ts : List Token) (g : LexFault) → AreTokens bytes ts → IsFirstFault bytes g → ⊥
not_both bytes ts g a b = let e = tokens_read bytes ts a in clean_bad (Read bytes).1 g e.1 (fault_read bytes g b)

one_by : (bytes : List ℕ) (end : TokensEnd) → (Read bytes).1 ≡ end → HasOne bytes
one_by bytes Clean e = inl (settle (Read bytes).0, ((Read bytes).0, ends_as bytes Clean e, refl))
one_by bytes (Bad g) e = inr (g, ((Read bytes).0, ends_as bytes (Bad g) e))

pub has_one : (bytes : List ℕ) → HasOne bytes
has_one bytes = one_by bytes (Read bytes).1 refl

-- ---- what is read ends well or at a flaw, which is never TooLong

abbrev EndsWell : TokensEnd → Type 0
EndsWell Clean = Unit {0}
EndsWell (Bad fault) = (g : Flaw) × (line : ℕ) × (fault ≡ on_line g line)

well_by : (b : ℕ) (z : List ℕ) (p : Place) (pos : Position) → ((n : ℕ) (q : Place) → EndsWell (scan n q (after_byte pos b) z).1) → (r : Result Front Flaw) →
    EndsWell (scan_by (λ n q. scan n q (after_byte pos b) z) p pos r).1
well_by b z p pos go (Err g) = (g, pos.line, refl)
well_by b z p pos go (Ok (front.Gap n)) = go n p
well_by b z p pos go (Ok (front.Token t n)) = go n (place_after p t)

scan_well : (bytes : List ℕ) (n : ℕ) (p : Place) (pos : Position) → EndsWell (scan n p pos bytes).1
unfolding scan
scan_well [] n p pos = tt
scan_well (b ∷ z) (suc n) p pos = scan_well z n p (after_byte pos b)
scan_well (b ∷ z) zero p pos = well_by b z p pos (λ n q. scan_well z n q (after_byte pos b)) (front_at p pos b z)

no_length : (g : Flaw) (line : ℕ) → faults.TooLong ≡ on_line g line → ⊥
no_length f.BadByte line e = cc
no_length f.Unclosed line e = cc
no_length f.Constant line e = cc
no_length f.Escape line e = cc
no_length f.OptionLine line e = cc

never_long : (end : TokensEnd) → EndsWell end → end ≡ Bad faults.TooLong → ⊥
never_long Clean h e = cc
never_long (Bad x) h e = let s : x ≡ faults.TooLong = cc in no_length h.0 h.1 (sym s ∙ h.2)

-- ---- the clauses of lex, within the limit

module _ {X : Type 0} (view : X → List Token) (bytes : List ℕ) (within : length bytes ≤ 65536) where
  pub ok_of : (r : Result X LexFault) → Lexed view r (Read bytes) → IfOk r (λ x. IsLexed bytes (view x))
  ok_of (Ok x) h = (within, ((Read bytes).0, ends_as bytes Clean h.1, sym h.0))
  ok_of (Err e) h = search rules

  pub err_of : (r : Result X LexFault) → Lexed view r (Read bytes) → IfErr r (λ e. (e ≡ faults.Memory) ⊎ IsRefused bytes e)
  err_of (Ok x) h = search rules
  err_of (Err e) h = elim h [ inl m ↦ inl m | inr b ↦ inr (inr (within, ((Read bytes).0, ends_as bytes (Bad e) b))) ]

  pub lexed_of : (r : Result X LexFault) → Lexed view r (Read bytes) → (ts : List Token) → IsLexed bytes ts → MatchResult r (λ x. view x ≡ ts) (λ e. e ≡ faults.Memory)
  lexed_of (Ok x) h ts a = let e = tokens_read bytes ts a.1 in sym h.0 ∙ sym e.0
  lexed_of (Err g) h ts a = let e = tokens_read bytes ts a.1 in elim h [ inl m ↦ m | inr b ↦ absurd (clean_bad (Read bytes).1 g e.1 b) ]

  same_fault : (e g : LexFault) → Stops e (Read bytes).1 → IsFirstFault bytes g → (e ≡ g) ⊎ (e ≡ faults.Memory)
  same_fault e g h a = elim h [ inl m ↦ inr m | inr b ↦ inl (bad_same (Read bytes).1 e g b (fault_read bytes g a)) ]

  pub refused_of : (r : Result X LexFault) → Lexed view r (Read bytes) → (g : LexFault) → IsRefused bytes g → IsErrAnd r (λ e. (e ≡ g) ⊎ (e ≡ faults.Memory))
  refused_of (Ok x) h g a = elim a [ inl long ↦ absurd (omega (arith, long.1)) | inr first ↦ absurd (clean_bad (Read bytes).1 g h.1 (fault_read bytes g first.1)) ]
  refused_of (Err e) h g a = elim a [ inl long ↦ absurd (omega (arith, long.1)) | inr first ↦ same_fault e g h first.1 ]

  pub in_bounds : (r : Result X LexFault) → Lexed view r (Read bytes) → IsErrOf r faults.TooLong → ⊥
  in_bounds (Ok x) h t = cc
  in_bounds (Err e) h t = let s : e ≡ faults.TooLong = cc in elim h [ inl m ↦ (let k : faults.TooLong ≡ faults.Memory = sym s ∙ m in cc) | inr b ↦ never_long (Read bytes).1 (scan_well bytes 0 Head first_position) (b ∙ ap Bad s) ]

-- ---- no more tokens than bytes

few_by : (b : ℕ) (z : List ℕ) (p : Place) (pos : Position) → ((n : ℕ) (q : Place) → length (scan n q (after_byte pos b) z).0 ≤ length z) → (r : Result Front Flaw) →
    length (scan_by (λ n q. scan n q (after_byte pos b) z) p pos r).0 ≤ suc (length z)
few_by b z p pos go (Err g) = omega arith
few_by b z p pos go (Ok (front.Gap n)) = omega (arith, go n p)
few_by b z p pos go (Ok (front.Token t n)) = omega (arith, go n (place_after p t))

scan_few : (bytes : List ℕ) (n : ℕ) (p : Place) (pos : Position) → length (scan n p pos bytes).0 ≤ length bytes
unfolding scan
scan_few [] n p pos = omega arith
scan_few (b ∷ z) (suc n) p pos = omega (arith, scan_few z n p (after_byte pos b))
scan_few (b ∷ z) zero p pos = few_by b z p pos (λ n q. scan_few z n q (after_byte pos b)) (front_at p pos b z)

settle_length : (ts : List Token) → length (settle ts) ≡ length ts
settle_length [] = refl
settle_length (t ∷ ts) = ap suc (settle_length ts)

pub few_of : {X : Type 0} (view : X → List Token) (bytes : List ℕ) → length bytes ≤ 65536 → (r : Result X LexFault) → Lexed view r (Read bytes) → IfOk r (λ x. length (view x) ≤ 65536)
few_of view bytes within (Ok x) h = omega (arith, ap length h.0, settle_length (Read bytes).0, scan_few bytes 0 Head first_position)
few_of view bytes within (Err e) h = search rules

pub small_of : {X : Type 0} (view : X → List Token) (bytes : List ℕ) → length bytes ≤ 65536 → (r : Result X LexFault) → Lexed view r (Read bytes) → IfOk r (λ x. HaveSmallNumbers (view x))
small_of view bytes within (Ok x) h = tokens_small bytes (view x) (ok_of view bytes within (Ok x) h).1
small_of view bytes within (Err e) h = search rules
