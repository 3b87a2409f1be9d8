-- Tokens and faults stand where the bytes say.
use Rattle.std.proofs.Common.{◌≡◌, eqb, ℕ, suc, ◌+◌, ◌<◌, ◌≤◌, Bool, true, false, cond, List, []}
use Rattle.std.proofs.Common.{◌∷◌, ◌++◌, length, refl, sym, ap, ◌∙◌, arith, add_assoc, append_assoc}
use Rattle.std.proofs.Common.{length-append}
use Rattle.std.proofs.lemmas.List.Sums.{sum_by-append}
use Rattle.std.specs.Prelude.{count_by}
use Rattle.std.specs.List.{AllByRecursion}
use Rattle.d_lexer.specs.declared.token.Token.{Token}
use Rattle.d_lexer.specs.declared.token.TokenKind.{TokenKind}
use Rattle.d_lexer.specs.declared.place.Place.{Place}
use Rattle.d_lexer.specs.declared.place.Place.TheVariants.{Head}
use Rattle.d_lexer.specs.declared.position.Position.{Position}
use Rattle.d_lexer.specs.declared.fault.LexFault.{LexFault}
use Rattle.d_lexer.specs.Places.{first_position, after_byte, position_after, place_after}
use Rattle.d_lexer.specs.Faults.{on_line, IsFault}
use Rattle.d_lexer.specs.Tokens.{Past, here, past, SpellsToken, Lexes}
use Rattle.d_lexer.specs.Steps.Scan.{TokensEnd, Clean}
use Rattle.d_lexer.specs.Lexing.{settle, AreTokens, IsFirstFault}
use Rattle.d_lexer.specs.Spans.{line_after, IsInPlace, AreInOrder, HasItsLine}
use Rattle.d_lexer.proofs.{Base.EndsAs, Complete.token_reads, Complete.fault_fails}

-- the position is the one after these bytes
record IsAfter (before : List ℕ) (pos : Position) : Type 0 where
  at : pos.at ≡ length before
  line : pos.line ≡ line_after before

one_line : (pos : Position) (b : ℕ) → (after_byte pos b).line ≡ pos.line + count_by (λ c. eqb c 10) (b ∷ [])
one_line pos b = by (eqb b 10) where
  by : (c : Bool) → cond c (pos.line + 1) pos.line ≡ pos.line + (0 + cond c 1 0)
  by true = omega arith
  by false = omega arith

moved_at : (own : List ℕ) (pos : Position) → (position_after pos own).at ≡ pos.at + length own
moved_at [] pos = omega arith
moved_at (b ∷ own) pos = moved_at own (after_byte pos b) ∙ omega arith

moved_line : (own : List ℕ) (pos : Position) → (position_after pos own).line ≡ pos.line + count_by (λ c. eqb c 10) own
moved_line [] pos = omega arith
moved_line (b ∷ own) pos =
    let more = moved_line own (after_byte pos b) in
    let one = one_line pos b in
    let e : count_by (λ c. eqb c 10) (b ∷ own) ≡ count_by (λ c. eqb c 10) (b ∷ []) + count_by (λ c. eqb c 10) own = sum_by-append (λ c. cond (eqb c 10) 1 0) (b ∷ []) own in
    more ∙ ap (λ (n : ℕ). n + count_by (λ c. eqb c 10) own) one ∙ add_assoc pos.line (count_by (λ c. eqb c 10) (b ∷ [])) (count_by (λ c. eqb c 10) own) ∙ ap (λ (n : ℕ). pos.line + n) (sym e)

later_more : (before own : List ℕ) (pos : Position) → IsAfter before pos → IsAfter (before ++ own) (position_after pos own)
later_more before own pos h =
    let e : count_by (λ c. eqb c 10) (before ++ own) ≡ count_by (λ c. eqb c 10) before + count_by (λ c. eqb c 10) own = sum_by-append (λ c. cond (eqb c 10) 1 0) before own in
    record {
      at = moved_at own pos ∙ ap (λ (n : ℕ). n + length own) h.at ∙ sym (length-append before own);
      line = moved_line own pos ∙ ap (λ (n : ℕ). n + count_by (λ c. eqb c 10) own) h.line ∙ add_assoc 1 (count_by (λ c. eqb c 10) before) (count_by (λ c. eqb c 10) own) ∙ ap (λ (n : ℕ). 1 + n) (sym e);
    }

cut_more : (all before z own rest : List ℕ) → all ≡ before ++ z → z ≡ own ++ rest → all ≡ (before ++ own) ++ rest
cut_more all before z own rest e f = e ∙ ap (λ (xs : List ℕ). before ++ xs) f ∙ sym (append_assoc before own rest)

-- what stands after the pieces stands after more of the bytes
past_later : (p : Place) (Then : Position → List ℕ → Type 0) (P : Type 0) (all : List ℕ) (from : ℕ) →
    ((before : List ℕ) (q : Position) (z : List ℕ) → all ≡ before ++ z → IsAfter before q → from ≤ q.at → Then q z → P) →
    (before : List ℕ) {pos : Position} {bytes : List ℕ} → all ≡ before ++ bytes → IsAfter before pos → from ≤ pos.at → Past p Then pos bytes → P
past_later p Then P all from k before is at low (here h) = k before _ _ is at low h
past_later p Then P all from k before {pos = pos} {bytes = bytes} is at low (past own rest cut piece more) =
    past_later p Then P all from k (before ++ own)
    (cut_more all before bytes own rest is cut)
    (later_more before own pos at) (omega (arith, moved_at own pos)) more

-- all of them stand in the bytes, in order from this offset on
record AllStand (all : List ℕ) (from : ℕ) (ts : List Token) : Type 0 where
  each : AllByRecursion (IsInPlace all) ts
  order : AreInOrder from ts

stand_more : (all : List ℕ) (from : ℕ) (t : Token) (ts : List Token) → IsInPlace all t → from ≤ t.start → t.start < t.stop → AllStand all t.stop ts → AllStand all from (t ∷ ts)
stand_more all from t ts s low nonempty more = record { each = (s, more.each); order = (low, nonempty, more.order) }

stand : (ts : List Token) (end : TokensEnd) (p : Place) (all before : List ℕ) (pos : Position) (bytes : List ℕ) (from : ℕ) → all ≡ before ++ bytes → IsAfter before pos → from ≤ pos.at →
    Lexes (EndsAs end) p pos bytes ts → AllStand all from ts
stand [] end p all before pos bytes from is at low h = record { each = tt; order = tt }
stand (t ∷ ts) end p all before pos bytes from is at low h =
    past_later p _ (AllStand all from (t ∷ ts)) all from
    (λ b q z cut here_at below e.
    one b q z e.0 e.1 cut here_at below e.2 e.3 e.4 e.5 e.6
    (stand ts end (place_after p t.kind) all (b ++ e.0) (position_after q e.0) e.1 t.stop (cut_more all b z e.0 e.1 cut e.2) (later_more b e.0 q here_at) (omega (arith, e.5, moved_at e.0 q)) e.7))
    before is at low h where
      one : (b : List ℕ) (q : Position) (z own rest : List ℕ) → all ≡ b ++ z → IsAfter b q → from ≤ q.at → z ≡ own ++ rest → SpellsToken p own rest t.kind → t.start ≡ q.at → t.stop ≡ q.at + length own → t.line ≡ q.line →
          AllStand all t.stop ts → AllStand all from (t ∷ ts)
      one b q z own rest cut here_at below z_is spells e1 e2 e3 more =
          let r = token_reads p q own rest t.kind spells in
          let long : length own ≡ suc (length r.others) = ap (λ (xs : List ℕ). length xs) r.is in
          stand_more all from t ts
          (record { before = b; own = own; later = rest; is = cut ∙ ap (λ (xs : List ℕ). b ++ xs) z_is; start = e1 ∙ here_at.at; stop = e2 ∙ ap (λ (n : ℕ). n + length own) here_at.at ∙ sym (length-append b own); line = e3 ∙ here_at.line })
          (omega (arith, e1)) (omega (arith, e1, e2, long))
          more

at_start : IsAfter [] first_position
at_start = record { at = refl; line = refl }

-- settling leaves spans and lines
settled_stands : (all : List ℕ) (t : Token) (k : TokenKind) → IsInPlace all t → IsInPlace all (record t { kind = k })
settled_stands all t k s = record { before = s.before; own = s.own; later = s.later; is = s.is; start = s.start; stop = s.stop; line = s.line }

settle_stands : (all : List ℕ) (ts : List Token) → AllByRecursion (IsInPlace all) ts → AllByRecursion (IsInPlace all) (settle ts)
settle_stands all [] h = tt
settle_stands all (t ∷ ts) h = (settled_stands all t _ h.0, settle_stands all ts h.1)

settle_order : (from : ℕ) (ts : List Token) → AreInOrder from ts → AreInOrder from (settle ts)
settle_order from [] h = tt
settle_order from (t ∷ ts) h = (h.0, h.1, settle_order t.stop ts h.2)

all_stand : (bytes : List ℕ) (ts : List Token) (end : TokensEnd) → Lexes (EndsAs end) Head first_position bytes ts → AllStand bytes 0 ts
all_stand bytes ts end h = stand ts end Head bytes [] first_position bytes 0 refl at_start (omega arith) h

pub tokens_are_in_place : (bytes : List ℕ) (ts : List Token) → AreTokens bytes ts → AllByRecursion (IsInPlace bytes) ts
tokens_are_in_place bytes ts a = rw a.2 (settle_stands bytes a.0 (all_stand bytes a.0 Clean a.1).each)

pub tokens_in_order : (bytes : List ℕ) (ts : List Token) → AreTokens bytes ts → AreInOrder 0 ts
tokens_in_order bytes ts a = rw a.2 (settle_order 0 a.0 (all_stand bytes a.0 Clean a.1).order)

-- ---- faults

stated : (ts : List Token) (fault : LexFault) (p : Place) (all before : List ℕ) (pos : Position) (bytes : List ℕ) → all ≡ before ++ bytes → IsAfter before pos → Lexes (IsFault fault) p pos bytes ts → HasItsLine all fault
stated [] fault p all before pos bytes is at h =
    past_later p (IsFault fault p) (HasItsLine all fault) all 0
    (λ b q z cut here_at _ e.
    let r = fault_fails p q z e.0 e.1 in
    record { before = b; first = r.first; later = r.others; flaw = e.0; is = cut ∙ ap (λ (xs : List ℕ). b ++ xs) r.is; stated = e.2 ∙ ap (on_line e.0) here_at.line })
    before is at (omega arith) h
stated (t ∷ ts) fault p all before pos bytes is at h =
    past_later p _ (HasItsLine all fault) all 0
    (λ b q z cut here_at _ e.
    stated ts fault (place_after p t.kind) all (b ++ e.0) (position_after q e.0) e.1 (cut_more all b z e.0 e.1 cut e.2) (later_more b e.0 q here_at) e.7)
    before is at (omega arith) h

pub fault_has_its_line : (bytes : List ℕ) (fault : LexFault) → IsFirstFault bytes fault → HasItsLine bytes fault
fault_has_its_line bytes fault a = stated a.0 fault Head bytes [] first_position bytes refl at_start a.1
