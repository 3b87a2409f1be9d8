-- What the text has is what is read.
use Rattle.std.proofs.Common.{◌≡◌, eqb, ◌||◌, ℕ, suc, ◌+◌, Bool, true, false, not, cond, List, []}
use Rattle.std.proofs.Common.{◌∷◌, ◌++◌, length, Option, Some, None, Result, Ok, Err, refl, sym, ap}
use Rattle.std.proofs.Common.{subst, ◌∙◌, arith, append_assoc, length-append, inl, inr}
use Rattle.std.proofs.lemmas.List.{append-nil}
use Rattle.std.specs.Prelude.{slice_get, IfSome, codes}
use Rattle.std.proofs.lemmas.Bool.Decides.{nat_tests}
use Rattle.std.specs.Char.{is_ascii_digit}
use Rattle.d_lexer.specs.declared.token.Mark.{Mark}
use Rattle.d_lexer.specs.declared.token.Suffix.{Suffix}
use Rattle.d_lexer.specs.declared.token.Token.{Token}
use Rattle.d_lexer.specs.declared.token.TokenKind.{TokenKind}
use Rattle.d_lexer.specs.declared.token.TokenKind.TheVariants as kind
use Rattle.d_lexer.specs.declared.place.Place.{Place}
use Rattle.d_lexer.specs.declared.place.Place.TheVariants.{Head, Declaration, Predicate, Body}
use Rattle.d_lexer.specs.declared.position.Position.{Position}
use Rattle.d_lexer.specs.declared.token.Front.{Front}
use Rattle.d_lexer.specs.declared.token.Front.TheVariants as front
use Rattle.d_lexer.specs.declared.token.Front.TheVariants.{Gap}
use Rattle.d_lexer.specs.declared.fault.Flaw.{Flaw}
use Rattle.d_lexer.specs.declared.fault.Flaw.TheVariants as f
use Rattle.d_lexer.specs.declared.fault.LexFault.{LexFault}
use Rattle.d_lexer.specs.Bytes.{is_blank_byte, is_word_start, is_word_byte, is_run_byte, is_inside}
use Rattle.d_lexer.specs.Bytes.{stands_for_itself, begins_comment, escape_of, is_declaring}
use Rattle.d_lexer.specs.Steps.Numbers.{number_spelled}
use Rattle.d_lexer.specs.Marks.{mark_of}
use Rattle.d_lexer.specs.Steps.Marks.{mark_by}
use Rattle.d_lexer.specs.Places.{position_after, after_byte, is_head, is_first, is_hash}
use Rattle.d_lexer.specs.Places.{place_after}
use Rattle.d_lexer.specs.Steps.OptionLine.{is_option}
use Rattle.d_lexer.specs.Tokens.{Fills, HasNoEnd, IsSeparator, blank, comment, first_line}
use Rattle.d_lexer.specs.Tokens.{Past, here, past, IsLongestRun, SpellsText, SpellsAggregation}
use Rattle.d_lexer.specs.Tokens.{IsMark}
use Rattle.d_lexer.specs.Tokens.{SpellsToken, option_line}
use Rattle.d_lexer.specs.Faults.{on_line, begins, StopsText, IsFrontFault, stray, open_comment}
use Rattle.d_lexer.specs.Faults.{text, number, other_option}
use Rattle.d_lexer.specs.Tokens.{Lexes}
use Rattle.d_lexer.specs.Steps.Scan.{with_byte, skip_one, text_from, comment_from, mark_at}
use Rattle.d_lexer.specs.Steps.Scan.{mark_front}
use Rattle.d_lexer.specs.Steps.Scan.{number_front, head_kind, aggregation_front, text_front}
use Rattle.d_lexer.specs.Steps.Scan.{inside_at, head_at, token_at, front_at, Scanned}
use Rattle.d_lexer.specs.Steps.Scan.{with_first_token}
use Rattle.d_lexer.specs.Steps.Scan.{scan, TokensEnd, Clean, Bad}
use Rattle.d_lexer.proofs.Base.{run_fills, run_is, scan_skip, EndsAs, SpellsInside, spelled_inside}
use Rattle.d_lexer.proofs.Base.{SpellInTurn, in_turn}
use Rattle.d_lexer.proofs.Steps.{later_text, later_none}
use Rattle.d_lexer.proofs.Numbers.{IsNoNumber, number_reads, none_reads}
use Rattle.d_lexer.proofs.OptionLines.{spaced_of, option_reads, no_option_reads}
use Rattle.d_lexer.proofs.MarkTables.{mark_walked}
use Rattle.d_lexer.proofs.Marks.{MarkIs, mark_sound, mark_complete, mark_free, is_free}

-- the bytes begin with this one, and this is read there
pub record Reads (p : Place) (pos : Position) (bytes rest : List ℕ) (answer : ℕ → Result Front Flaw) : Type 0 where
  pub first : ℕ
  pub others : List ℕ
  pub is : bytes ≡ first ∷ others
  pub read : front_at p pos first (others ++ rest) ≡ answer (length others)

-- ---- pieces

comment_ends : (body rest : List ℕ) → HasNoEnd body → comment_from (body ++ 42 ∷ (47 ∷ rest)) ≡ Some (length body + 2)
unfolding comment_from
comment_ends [] rest h = refl
comment_ends (b ∷ []) rest h = rw (h.0) refl
comment_ends (b ∷ c ∷ body) rest h =
    let e : suc (length (c ∷ body) + 2) ≡ length (b ∷ (c ∷ body)) + 2 = omega arith in
    rw (h.0) (rw (comment_ends (c ∷ body) rest h.1) (ap (λ (n : ℕ). Some n) e))

comment_open : (z : List ℕ) → HasNoEnd z → comment_from z ≡ None
unfolding comment_from
comment_open [] h = refl
comment_open (b ∷ z) h = rw (h.0, comment_open z h.1) refl

front_blank : (p : Place) (pos : Position) (b : ℕ) (z : List ℕ) → is_blank_byte b ≡ true → front_at p pos b z ≡ Ok (Gap 0)
unfolding front_at
front_blank p pos b z e = rw e refl

front_comment : (p : Place) (pos : Position) (body rest : List ℕ) → HasNoEnd body → front_at p pos 47 ((42 ∷ (body ++ 42 ∷ (47 ∷ []))) ++ rest) ≡ Ok (Gap (length (42 ∷ (body ++ 42 ∷ (47 ∷ [])))))
unfolding front_at
front_comment p pos body rest h =
    let e : length body + 2 ≡ length (body ++ 42 ∷ (47 ∷ [])) = omega (arith, length-append body (42 ∷ (47 ∷ []))) in
    rw append_assoc (rw (comment_ends body rest h) (ap (λ (n : ℕ). Ok (Gap (suc n))) e))

front_first : (p : Place) (pos : Position) (w rest : List ℕ) → is_first pos 35 (w ++ rest) ≡ true → Fills is_inside w rest → front_at p pos 35 (w ++ rest) ≡ Ok (Gap (length w))
unfolding front_at
front_first p pos w rest e h = rw (e, run_fills is_inside w rest h) refl

front_option : (p : Place) (pos : Position) (w rest : List ℕ) (c : Bool) → is_first pos 35 (w ++ rest) ≡ false → is_hash p pos 35 ≡ true → is_option (35 ∷ w) ≡ c → Fills is_inside w rest → front_at p pos 35 (w ++ rest) ≡ cond c (Ok (Gap (length w))) (Err f.OptionLine)
unfolding front_at
front_option p pos w rest c e1 e2 e3 h = rw (e1, e2, run_is is_inside w rest h, run_fills is_inside w rest h, e3) refl

first_at : (pos : Position) (z : List ℕ) → pos.at ≡ 0 → is_first pos 35 (33 ∷ z) ≡ true
first_at pos z at = grind (arith, nat_tests)

not_first : (pos : Position) (z : List ℕ) → is_first pos 35 (112 ∷ z) ≡ false
not_first pos z = grind (arith, nat_tests)

piece_reads : (p : Place) (pos : Position) (own rest : List ℕ) → IsSeparator p pos own rest → Reads p pos own rest (λ n. Ok (Gap n))
piece_reads p pos own rest (blank b is e) = record { first = b; others = []; is = is; read = front_blank p pos b rest e }
piece_reads p pos own rest (comment body is h) = record { first = 47; others = 42 ∷ (body ++ 42 ∷ (47 ∷ [])); is = is; read = front_comment p pos body rest h }
piece_reads p pos own rest (first_line w is at h) = record { first = 35; others = 33 ∷ w; is = is; read = front_first p pos (33 ∷ w) rest (first_at pos (w ++ rest) at) (record { all = (refl, h.all); stops = h.stops }) }
piece_reads p pos own rest (option_line e line h) =
    let s = spaced_of own line in
    let others : List ℕ = codes "pragma" ++ s.0 in
    let f = subst (λ (z : List ℕ). Fills is_inside z rest) s.1 h in
    record {
      first = 35;
      others = others;
      is = s.1;
      read = front_option p pos others rest true (not_first pos ((codes "ragma" ++ s.0) ++ rest)) e (subst (λ (z : List ℕ). is_option z ≡ true) s.1 (option_reads own line)) (record { all = f.all.1; stops = f.stops });
    }

-- ---- tokens

front_token : (p : Place) (pos : Position) (b : ℕ) (z : List ℕ) → is_blank_byte b ≡ false → begins_comment (b ∷ z) ≡ false → is_first pos b z ≡ false → is_hash p pos b ≡ false → front_at p pos b z ≡ token_at p b z
unfolding front_at
front_token p pos b z e1 e2 e3 e4 = rw (e1, e2, e3, e4) refl

no_first : (pos : Position) (b : ℕ) (z : List ℕ) → eqb b 35 ≡ false → is_first pos b z ≡ false
no_first pos b z e = grind (arith, nat_tests)

no_hash : (p : Place) (pos : Position) (b : ℕ) → eqb b 35 ≡ false → is_hash p pos b ≡ false
no_hash p pos b e = grind (arith, nat_tests)

front_plain : (p : Place) (pos : Position) (b : ℕ) (z : List ℕ) → is_blank_byte b ≡ false → eqb b 47 ≡ false → eqb b 35 ≡ false → front_at p pos b z ≡ token_at p b z
front_plain p pos b z e1 e2 e3 = front_token p pos b z e1 (rw e2 refl) (no_first pos b z e3) (no_hash p pos b e3)

token_inside : (p : Place) (b : ℕ) (z : List ℕ) → is_head p ≡ false → token_at p b z ≡ inside_at p b z
unfolding token_at
token_inside Head b z e = absurd cc
token_inside Declaration b z e = refl
token_inside Predicate b z e = refl
token_inside Body b z e = refl

front_inside : (p : Place) (pos : Position) (b : ℕ) (z : List ℕ) → is_head p ≡ false → is_blank_byte b ≡ false → eqb b 47 ≡ false → eqb b 35 ≡ false → front_at p pos b z ≡ inside_at p b z
front_inside p pos b z i e1 e2 e3 = front_plain p pos b z e1 e2 e3 ∙ token_inside p b z i

word_bytes : (b : ℕ) → is_word_start b ≡ true → (is_blank_byte b ≡ false) × (eqb b 47 ≡ false) × (eqb b 35 ≡ false)
word_bytes b h = (grind (arith, nat_tests), grind (arith, nat_tests), grind (arith, nat_tests))

run_bytes : (b : ℕ) → is_run_byte b ≡ true → (is_blank_byte b ≡ false) × (eqb b 47 ≡ false) × (eqb b 35 ≡ false)
run_bytes b h = (grind (arith, nat_tests), grind (arith, nat_tests), grind (arith, nat_tests))

digit_bytes : (b : ℕ) → is_ascii_digit b ≡ true → (is_blank_byte b ≡ false) × (eqb b 47 ≡ false) × (eqb b 35 ≡ false) × (is_word_start b ≡ false)
digit_bytes b h = (grind (arith, nat_tests), grind (arith, nat_tests), grind (arith, nat_tests), grind (arith, nat_tests))

inside_word : (p : Place) (b : ℕ) (z rest : List ℕ) → is_word_start b ≡ true → Fills is_word_byte z rest → inside_at p b (z ++ rest) ≡ Ok (front.Token (kind.Word (b ∷ z)) (length z))
unfolding inside_at
inside_word p b z rest e h = rw (e, run_is is_word_byte z rest h, run_fills is_word_byte z rest h) refl

inside_number : (p : Place) (b : ℕ) (z rest : List ℕ) (o : Option (ℕ × Suffix)) → is_ascii_digit b ≡ true → Fills is_word_byte z rest → number_spelled (b ∷ z) ≡ o → inside_at p b (z ++ rest) ≡ number_front o (length z)
unfolding inside_at
inside_number p b z rest o e h n = let s = digit_bytes b e in rw (s.3, e, run_is is_word_byte z rest h, run_fills is_word_byte z rest h, n) refl

inside_agg : (p : Place) (w : List ℕ) → inside_at p 64 w ≡ aggregation_front w
unfolding inside_at
inside_agg p w = refl

agg_alone : (rest : List ℕ) → IfSome (slice_get rest 0) (λ b. is_word_start b ≡ false) → aggregation_front rest ≡ Ok (front.Token (kind.AggregationName (95 ∷ [])) 0)
agg_alone [] h = refl
agg_alone (b ∷ rest) h = rw h refl

agg_word : (w rest : List ℕ) → IsLongestRun is_word_start is_word_byte w rest → aggregation_front (w ++ rest) ≡ Ok (front.Token (kind.AggregationName w) (length w))
agg_word [] rest h = absurd h
agg_word (b ∷ w) rest h = let e = h.0 in rw (e, run_is is_word_byte w rest h.1, run_fills is_word_byte w rest h.1) refl

inside_text : (p : Place) (z : List ℕ) → inside_at p 34 z ≡ text_front (text_from false z)
unfolding inside_at
inside_text p z = refl

-- ---- text constants

plain_bytes : (b : ℕ) → stands_for_itself b ≡ true → (eqb b 34 ≡ false) × (eqb b 10 ≡ false) × (eqb b 0 ≡ false) × (eqb b 92 ≡ false)
plain_bytes b h = (grind (arith, nat_tests), grind (arith, nat_tests), grind (arith, nat_tests), grind (arith, nat_tests))

text_plain : (x : ℕ) (z : List ℕ) → stands_for_itself x ≡ true → text_from false (x ∷ z) ≡ with_byte x (text_from false z)
unfolding text_from
text_plain x z h = let s = plain_bytes x h in rw (s.0, s.1, s.2, s.3) refl

text_escape : (e x : ℕ) (z : List ℕ) → escape_of e ≡ Some x → text_from false (92 ∷ (e ∷ z)) ≡ skip_one (with_byte x (text_from false z))
unfolding text_from
text_escape e x z h = rw h refl

put_later : (x n m : ℕ) (w : List ℕ) (r : Result (List ℕ × ℕ) Flaw) → m ≡ suc n → with_byte x (later_text w n r) ≡ later_text (x ∷ w) m r
put_later x n m w (Err g) e = refl
put_later x n m w (Ok t) e = let k : suc (n + t.1) ≡ m + t.1 = omega arith in rw k refl

put_later2 : (x n m : ℕ) (w : List ℕ) (r : Result (List ℕ × ℕ) Flaw) → m ≡ suc (suc n) → skip_one (with_byte x (later_text w n r)) ≡ later_text (x ∷ w) m r
put_later2 x n m w (Err g) e = refl
put_later2 x n m w (Ok t) e = let k : suc (suc (n + t.1)) ≡ m + t.1 = omega arith in rw k refl

text_goes : (w body rest : List ℕ) → SpellInTurn body w → text_from false (body ++ rest) ≡ later_text w (length body) (text_from false rest)
text_goes [] body rest h = rw h (sym (later_none (text_from false rest)))
text_goes (x ∷ w) body rest h =
    let further = text_goes w h.1 rest h.4 in
    elim h.3 [
      | inl p ↦ (let is : body ≡ x ∷ h.1 = h.2 ∙ ap (λ (xs : List ℕ). xs ++ h.1) p.1 in
          rw is (text_plain x (h.1 ++ rest) p.0 ∙ ap (with_byte x) further ∙ put_later x (length h.1) (suc (length h.1)) w (text_from false rest) refl))
      | inr p ↦ (let is : body ≡ 92 ∷ (p.0 ∷ h.1) = h.2 ∙ ap (λ (xs : List ℕ). xs ++ h.1) p.2 in
          rw is (text_escape p.0 x (h.1 ++ rest) p.1 ∙ ap (λ r. skip_one (with_byte x r)) further ∙ put_later2 x (length h.1) (suc (suc (length h.1))) w (text_from false rest) refl))
    ]

text_ends : (rest : List ℕ) → text_from false (34 ∷ rest) ≡ Ok ([], 1)
unfolding text_from
text_ends rest = refl

text_stops : (g : Flaw) (rest : List ℕ) → StopsText g rest → text_from false rest ≡ Err g
unfolding text_from
text_stops f.BadByte rest h = let e = h.1 in rw e refl
text_stops f.Unclosed rest h = elim h [ inl e ↦ rw e refl | inr o ↦ elim o [ inl e ↦ (let k = e.1 in rw k refl) | inr e ↦ rw e refl ] ]
text_stops f.Escape rest h = let e = h.2 in let k = h.3 in rw (e, k) refl
text_stops f.Constant rest h = absurd h
text_stops f.OptionLine rest h = absurd h

-- ---- all tokens

reads : (p : Place) (pos : Position) (b : ℕ) (z rest own : List ℕ) (t : TokenKind) → own ≡ b ∷ z → front_at p pos b (z ++ rest) ≡ Ok (front.Token t (length z)) → Reads p pos own rest (λ n. Ok (front.Token t n))
reads p pos b z rest own t is read = record { first = b; others = z; is = is; read = read }

mark_bytes : (p : Place) (b : ℕ) → is_free p b ≡ true → (is_blank_byte b ≡ false) × (begins p b ≡ false) × (eqb b 35 ≡ false)
mark_bytes p b h = of_free (is_blank_byte b) (begins p b) (eqb b 35) h where
  of_free : (x y z : Bool) → not (x || y || z) ≡ true → (x ≡ false) × (y ≡ false) × (z ≡ false)
  of_free true y z e = absurd cc
  of_free false true z e = absurd cc
  of_free false false true e = absurd cc
  of_free false false false e = (refl, refl, refl)

inside_none : (b : ℕ) → (is_word_start b || is_ascii_digit b || eqb b 64 || eqb b 34) ≡ false → (is_word_start b ≡ false) × (is_ascii_digit b ≡ false) × (eqb b 64 ≡ false) × (eqb b 34 ≡ false)
inside_none b h = of_none (is_word_start b) (is_ascii_digit b) (eqb b 64) (eqb b 34) h where
  of_none : (x y z w : Bool) → (x || y || z || w) ≡ false → (x ≡ false) × (y ≡ false) × (z ≡ false) × (w ≡ false)
  of_none true y z w e = absurd cc
  of_none false true z w e = absurd cc
  of_none false false true w e = absurd cc
  of_none false false false true e = absurd cc
  of_none false false false false e = (refl, refl, refl, refl)

inside_mark : (p : Place) (b : ℕ) (z : List ℕ) → (is_word_start b || is_ascii_digit b || eqb b 64 || eqb b 34) ≡ false → inside_at p b z ≡ mark_front (mark_at p b z)
unfolding inside_at
inside_mark p b z e = let h = inside_none b e in rw (h.0, h.1, h.2, h.3) refl

head_mark : (b : ℕ) (z : List ℕ) → is_run_byte b ≡ false → head_at b z ≡ mark_front (mark_at Head b z)
unfolding head_at
head_mark b z e = rw e refl

-- where nothing else begins a mark is looked for
token_mark : (p : Place) (b : ℕ) (z : List ℕ) → begins p b ≡ false → token_at p b z ≡ mark_front (mark_at p b z)
unfolding token_at
token_mark Head b z e = head_mark b z e
token_mark Declaration b z e = inside_mark Declaration b z e
token_mark Predicate b z e = inside_mark Predicate b z e
token_mark Body b z e = inside_mark Body b z e

no_mark_empty : (p : Place) (k : Mark) → mark_of p [] ≡ Some k → ⊥
unfolding mark_by
no_mark_empty p k e = let walked = mark_walked p [] k e in cc

mark_reads : (p : Place) (pos : Position) (own rest : List ℕ) (k : Mark) → IsMark p own rest k → Reads p pos own rest (λ n. Ok (front.Token (kind.Mark k) n))
mark_reads p pos [] rest k h = absurd (no_mark_empty p k h.is)
mark_reads p pos (b ∷ z) rest k h =
    let m = mark_bytes p b (mark_free p b z k h.is) in
    reads p pos b z rest (b ∷ z) (kind.Mark k) refl
    (front_token p pos b (z ++ rest) m.0 h.no_comment (no_first pos b (z ++ rest) m.2) (no_hash p pos b m.2)
    ∙ token_mark p b (z ++ rest) m.1
    ∙ ap mark_front (mark_complete p b z rest k h))

head_run : (pos : Position) (own rest : List ℕ) (t : TokenKind) → head_kind own ≡ t → IsLongestRun is_run_byte is_run_byte own rest → Reads Head pos own rest (λ n. Ok (front.Token t n))
unfolding token_at head_at
head_run pos [] rest t e h = absurd h
head_run pos (b ∷ z) rest t e h =
    let m = run_bytes b h.0 in
    let k = h.0 in
    let read : token_at Head b (z ++ rest) ≡ Ok (front.Token t (length z)) = rw (k, run_is is_run_byte z rest h.1, run_fills is_run_byte z rest h.1) (ap (λ (x : TokenKind). Ok (front.Token x (length z))) e) in
    reads Head pos b z rest (b ∷ z) t refl (front_plain Head pos b (z ++ rest) m.0 m.1 m.2 ∙ read)

head_kind_word : (own : List ℕ) → is_declaring own ≡ true → head_kind own ≡ kind.Word own
head_kind_word own e = rw e refl

head_kind_run : (own : List ℕ) → is_declaring own ≡ false → head_kind own ≡ kind.DescriptionRun own
head_kind_run own e = rw e refl

head_reads : (pos : Position) (own rest : List ℕ) (t : TokenKind) → SpellsToken Head own rest t → Reads Head pos own rest (λ n. Ok (front.Token t n))
head_reads pos own rest (kind.DescriptionRun w) h = head_run pos own rest (kind.DescriptionRun w) (head_kind_run own h.1 ∙ ap kind.DescriptionRun (sym h.0)) h.2
head_reads pos own rest (kind.Word w) h = head_run pos own rest (kind.Word w) (head_kind_word own h.1 ∙ ap kind.Word (sym h.0)) h.2
head_reads pos own rest (kind.Mark k) h = mark_reads Head pos own rest k h
head_reads pos own rest (kind.AggregationName w) h = absurd h
head_reads pos own rest (kind.Number n s) h = absurd h
head_reads pos own rest (kind.TextConstant w) h = absurd h

module _ (p : Place) (pos : Position) (i : is_head p ≡ false) where
  word_reads : (own rest w : List ℕ) → w ≡ own → IsLongestRun is_word_start is_word_byte own rest → Reads p pos own rest (λ n. Ok (front.Token (kind.Word w) n))
  word_reads [] rest w e h = absurd h
  word_reads (b ∷ z) rest w e h =
      let m = word_bytes b h.0 in
      reads p pos b z rest (b ∷ z) (kind.Word w) refl (front_inside p pos b (z ++ rest) i m.0 m.1 m.2 ∙ inside_word p b z rest h.0 h.1 ∙ ap (λ (x : List ℕ). Ok (front.Token (kind.Word x) (length z))) (sym e))

  none_run : (own rest : List ℕ) → IsLongestRun is_ascii_digit is_word_byte own rest → IsNoNumber own → number_spelled own ≡ None
  none_run [] rest h none = absurd h
  none_run (b ∷ z) rest h none = none_reads b z h.0 none

  number_run : (own rest : List ℕ) (o : Option (ℕ × Suffix)) → number_spelled own ≡ o → IsLongestRun is_ascii_digit is_word_byte own rest → Reads p pos own rest (λ n. number_front o n)
  number_run [] rest o e h = absurd h
  number_run (b ∷ z) rest o e h =
      let m = digit_bytes b h.0 in
      record { first = b; others = z; is = refl; read = front_inside p pos b (z ++ rest) i m.0 m.1 m.2 ∙ inside_number p b z rest o h.0 h.1 e }

  agg_reads : (own rest w : List ℕ) → SpellsAggregation own rest w → Reads p pos own rest (λ n. Ok (front.Token (kind.AggregationName w) n))
  agg_reads own rest w h = elim h [
    | inl a ↦ reads p pos 64 [] rest own (kind.AggregationName w) a.0 (front_inside p pos 64 rest i refl refl refl ∙ inside_agg p rest ∙ agg_alone rest a.2 ∙ ap (λ (x : List ℕ). Ok (front.Token (kind.AggregationName x) 0)) (sym a.1))
    | inr a ↦ reads p pos 64 w rest own (kind.AggregationName w) a.0 (front_inside p pos 64 (w ++ rest) i refl refl refl ∙ inside_agg p (w ++ rest) ∙ agg_word w rest a.1)
  ]

  text_reads : (own rest w body : List ℕ) → own ≡ 34 ∷ (body ++ 34 ∷ []) → SpellsText body w → Reads p pos own rest (λ n. Ok (front.Token (kind.TextConstant w) n))
  text_reads own rest w body is h =
      let e : length body + 1 ≡ length (body ++ 34 ∷ []) = omega (arith, length-append body (34 ∷ [])) in
      let read : text_from false ((body ++ 34 ∷ []) ++ rest) ≡ Ok (w, length (body ++ 34 ∷ [])) =
      ap (text_from false) (append_assoc body (34 ∷ []) rest) ∙ text_goes w body (34 ∷ rest) (in_turn body w h) ∙ ap (later_text w (length body)) (text_ends rest)
      ∙ rw (append-nil w) (ap (λ (n : ℕ). Ok (w, n)) e) in
      reads p pos 34 (body ++ 34 ∷ []) rest own (kind.TextConstant w) is (front_inside p pos 34 ((body ++ 34 ∷ []) ++ rest) i refl refl refl ∙ inside_text p ((body ++ 34 ∷ []) ++ rest) ∙ ap text_front read)

  inside_reads : (own rest : List ℕ) (t : TokenKind) → SpellsInside p own rest t → Reads p pos own rest (λ n. Ok (front.Token t n))
  inside_reads own rest (kind.DescriptionRun w) h = absurd h
  inside_reads own rest (kind.Word w) h = word_reads own rest w h.0 h.1
  inside_reads own rest (kind.AggregationName w) h = agg_reads own rest w h
  inside_reads own rest (kind.Number n s) h = number_run own rest (Some (n, s)) (number_reads own n s h.0) h.1
  inside_reads own rest (kind.TextConstant w) h = text_reads own rest w h.0 h.1 h.2
  inside_reads own rest (kind.Mark k) h = mark_reads p pos own rest k h

pub token_reads : (p : Place) (pos : Position) (own rest : List ℕ) (t : TokenKind) → SpellsToken p own rest t → Reads p pos own rest (λ n. Ok (front.Token t n))
token_reads Head pos own rest t h = head_reads pos own rest t h
token_reads Declaration pos own rest t h = inside_reads Declaration pos refl own rest t (spelled_inside Declaration own rest t refl h)
token_reads Predicate pos own rest t h = inside_reads Predicate pos refl own rest t (spelled_inside Predicate own rest t refl h)
token_reads Body pos own rest t h = inside_reads Body pos refl own rest t (spelled_inside Body own rest t refl h)

-- ---- faults

mark_none : (p : Place) (b : ℕ) (z : List ℕ) (o : Option (Mark × ℕ)) → MarkIs p b z o → ((own rest : List ℕ) (k : Mark) → mark_of p own ≡ Some k → (b ∷ z) ≡ own ++ rest → ⊥) → o ≡ None
mark_none p b z None s h = refl
mark_none p b z (Some x) s h = absurd (h (b ∷ s.own) s.rest x.0 s.holds.0 (ap (λ (xs : List ℕ). b ∷ xs) s.is))

-- the fault that is read at the front
pub record Fails (p : Place) (pos : Position) (bytes : List ℕ) (g : Flaw) : Type 0 where
  pub first : ℕ
  pub others : List ℕ
  pub is : bytes ≡ first ∷ others
  pub read : front_at p pos first others ≡ Err g

comment_fails : (p : Place) (pos : Position) (z : List ℕ) → HasNoEnd z → front_at p pos 47 (42 ∷ z) ≡ Err f.Unclosed
unfolding front_at
comment_fails p pos z h = rw (comment_open z h) refl

number_fails : (p : Place) (pos : Position) (bytes own rest : List ℕ) → bytes ≡ own ++ rest → Reads p pos own rest (λ n. number_front None n) → Fails p pos bytes f.Constant
number_fails p pos bytes own rest is r = record { first = r.first; others = r.others ++ rest; is = is ∙ ap (λ (xs : List ℕ). xs ++ rest) r.is; read = r.read }

pub fault_fails : (p : Place) (pos : Position) (bytes : List ℕ) (g : Flaw) → IsFrontFault p pos bytes g → Fails p pos bytes g
fault_fails p pos bytes g (stray b z is h) =
    record {
      first = b;
      others = z;
      is = is;
      read = front_token p pos b z h.no_blank h.no_comment h.no_first h.no_hash ∙ token_mark p b z h.no_token ∙ ap mark_front (mark_none p b z (mark_at p b z) (mark_sound p b z) h.no_mark);
    }
fault_fails p pos bytes g (open_comment z is h) = record { first = 47; others = 42 ∷ z; is = is; read = comment_fails p pos z h }
fault_fails p pos bytes g (text body w rest i is spells stops) =
    let z = body ++ rest in
    let read : text_from false z ≡ Err g = text_goes w body rest (in_turn body w spells) ∙ ap (later_text w (length body)) (text_stops g rest stops) in
    record { first = 34; others = z; is = is; read = front_inside p pos 34 z i refl refl refl ∙ inside_text p z ∙ ap text_front read }
fault_fails p pos bytes g (number own rest i is h e) = number_fails p pos bytes own rest is (number_run p pos i own rest None (none_run p pos i own rest h e) h)
fault_fails p pos bytes g (other_option w rest is e1 e2 e3 h) = record { first = 35; others = w ++ rest; is = is; read = front_option p pos w rest false e1 e2 (no_option_reads (35 ∷ w) e3) h }

-- ---- all of the text

scan_gap : (p : Place) (pos : Position) (b : ℕ) (own rest : List ℕ) → front_at p pos b (own ++ rest) ≡ Ok (Gap (length own)) → scan 0 p pos (b ∷ (own ++ rest)) ≡ scan 0 p (position_after pos (b ∷ own)) rest
unfolding scan
scan_gap p pos b own rest e = rw e (scan_skip p (after_byte pos b) own rest)

scan_token : (p : Place) (pos : Position) (b : ℕ) (own rest : List ℕ) (t : TokenKind) → front_at p pos b (own ++ rest) ≡ Ok (front.Token t (length own)) →
    scan 0 p pos (b ∷ (own ++ rest)) ≡ with_first_token (record { kind = t; start = pos.at; stop = pos.at + suc (length own); line = pos.line }) (scan 0 (place_after p t) (position_after pos (b ∷ own)) rest)
unfolding scan
scan_token p pos b own rest t e = rw e (ap (with_first_token (record { kind = t; start = pos.at; stop = pos.at + suc (length own); line = pos.line })) (scan_skip (place_after p t) (after_byte pos b) own rest))

scan_fault : (p : Place) (pos : Position) (b : ℕ) (z : List ℕ) (g : Flaw) → front_at p pos b z ≡ Err g → scan 0 p pos (b ∷ z) ≡ ([], Bad (on_line g pos.line))
unfolding scan
scan_fault p pos b z g e = rw e refl

scan_past : (p : Place) (Then : Position → List ℕ → Type 0) (r : Scanned) → ((pos : Position) (bytes : List ℕ) → Then pos bytes → scan 0 p pos bytes ≡ r) →
    {pos : Position} {bytes : List ℕ} → Past p Then pos bytes → scan 0 p pos bytes ≡ r
scan_past p Then r k (here h) = k _ _ h
scan_past p Then r k {pos = pos} {bytes = bytes} (past own rest is piece more) =
    let f = piece_reads p pos own rest piece in
    let whole : bytes ≡ f.first ∷ (f.others ++ rest) = is ∙ ap (λ (xs : List ℕ). xs ++ rest) f.is in
    let moved_is : position_after pos (f.first ∷ f.others) ≡ position_after pos own = ap (position_after pos) (sym f.is) in
    rw whole (scan_gap p pos f.first f.others rest f.read ∙ ap (λ (q : Position). scan 0 p q rest) moved_is ∙ scan_past p Then r k more)

abbrev nothing_then : TokensEnd → Scanned
nothing_then end = ([], end)

ends : (p : Place) (end : TokensEnd) (pos : Position) (bytes : List ℕ) → EndsAs end p pos bytes → scan 0 p pos bytes ≡ ([], end)
unfolding scan
ends p Clean pos bytes h = rw h refl
ends p (Bad fault) pos bytes h =
    let s = fault_fails p pos bytes h.0 h.1 in
    ap (scan 0 p pos) s.is ∙ scan_fault p pos s.first s.others h.0 s.read ∙ ap (λ (x : LexFault). nothing_then (Bad x)) (sym h.2)

-- the tokens that a text has, and how they end, are what is read
pub complete : (ts : List Token) (end : TokensEnd) (p : Place) (pos : Position) (bytes : List ℕ) → Lexes (EndsAs end) p pos bytes ts → scan 0 p pos bytes ≡ (ts, end)
complete [] end p pos bytes h = scan_past p (EndsAs end p) ([], end) (λ q z e. ends p end q z e) h
complete (t ∷ ts) end p pos bytes h =
    scan_past p _ (t ∷ ts, end) (λ q z e. one q z e.0 e.1 e.2 e.3 e.4 e.5 e.6 (complete ts end (place_after p t.kind) (position_after q e.0) e.1 e.7)) h where
      one : (q : Position) (z own rest : List ℕ) → z ≡ own ++ rest → SpellsToken p own rest t.kind → t.start ≡ q.at → t.stop ≡ q.at + length own → t.line ≡ q.line → scan 0 (place_after p t.kind) (position_after q own) rest ≡ (ts, end) → scan 0 p q z ≡ (t ∷ ts, end)
      one q z own rest is spells e1 e2 e3 more =
          let s = token_reads p q own rest t.kind spells in
          let whole : z ≡ s.first ∷ (s.others ++ rest) = is ∙ ap (λ (xs : List ℕ). xs ++ rest) s.is in
          let further : scan 0 (place_after p t.kind) (position_after q (s.first ∷ s.others)) rest ≡ (ts, end) = ap (λ (xs : List ℕ). scan 0 (place_after p t.kind) (position_after q xs) rest) (sym s.is) ∙ more in
          let stop : q.at + suc (length s.others) ≡ t.stop = ap (λ (xs : List ℕ). q.at + length xs) (sym s.is) ∙ sym e2 in
          let lexeme : record { kind = t.kind; start = q.at; stop = q.at + suc (length s.others); line = q.line } ≡ t = rw (stop, ← e1, ← e3) refl in
          ap (scan 0 p q) whole ∙ scan_token p q s.first s.others rest t.kind s.read ∙ (λ i. with_first_token (lexeme i) (further i))
