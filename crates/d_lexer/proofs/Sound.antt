-- What is read is what the text has.
use Rattle.std.proofs.Common.{◌≡◌, eqb, ◌&&◌, ◌||◌, ℕ, zero, suc, ◌+◌, Bool, true, false, cond}
use Rattle.std.proofs.Common.{List, [], ◌∷◌, ◌++◌, length, Option, Some, None, Result, Ok, Err}
use Rattle.std.proofs.Common.{refl, sym, ap, subst, ◌∙◌, arith, append_assoc, inl, inr}
use Rattle.std.proofs.lemmas.Bool.Decides.{nat_tests}
use Rattle.std.proofs.lemmas.Bool.{eqb-true}
use Rattle.std.specs.Char.{is_ascii_digit}
use Rattle.d_lexer.specs.declared.token.Mark.{Mark}
use Rattle.d_lexer.specs.declared.token.Suffix.{Suffix}
use Rattle.d_lexer.specs.declared.token.Token.{Token}
use Rattle.d_lexer.specs.declared.token.TokenKind.{TokenKind}
use Rattle.d_lexer.specs.declared.token.TokenKind.TheVariants as kind
use Rattle.d_lexer.specs.declared.place.Place.{Place}
use Rattle.d_lexer.specs.declared.place.Place.TheVariants.{Head, Declaration, Predicate, Body}
use Rattle.d_lexer.specs.declared.position.Position.{Position}
use Rattle.d_lexer.specs.declared.token.Front.{Front}
use Rattle.d_lexer.specs.declared.token.Front.TheVariants as front
use Rattle.d_lexer.specs.declared.token.Front.TheVariants.{Gap}
use Rattle.d_lexer.specs.declared.fault.Flaw.{Flaw}
use Rattle.d_lexer.specs.declared.fault.Flaw.TheVariants as f
use Rattle.d_lexer.specs.Bytes.{next_is, is_blank_byte, is_word_start, is_word_byte, is_run_byte}
use Rattle.d_lexer.specs.Bytes.{is_inside, stands_for_itself, begins_comment, escape_of}
use Rattle.d_lexer.specs.Bytes.{is_declaring}
use Rattle.d_lexer.specs.Steps.Numbers.{number_spelled}
use Rattle.d_lexer.specs.Places.{position_after, after_byte, is_head, is_first, is_hash}
use Rattle.d_lexer.specs.Places.{place_after}
use Rattle.d_lexer.specs.Steps.OptionLine.{is_option}
use Rattle.d_lexer.specs.Tokens.{Fills, HasNoEnd, IsSeparator, blank, comment, first_line}
use Rattle.d_lexer.specs.Tokens.{option_line}
use Rattle.d_lexer.specs.Tokens.{here, past, IsLongestRun, IsMark}
use Rattle.d_lexer.specs.Tokens.{SpellsToken}
use Rattle.d_lexer.specs.Tokens.{Lexes}
use Rattle.d_lexer.specs.Faults.{begins, StopsText, IsFrontFault, stray, open_comment, text}
use Rattle.d_lexer.specs.Faults.{number, other_option}
use Rattle.d_lexer.specs.Steps.Scan.{TokensEnd}
use Rattle.d_lexer.specs.Steps.Scan.{run_len, front_run, tail, with_byte, skip_one, put_escape}
use Rattle.d_lexer.specs.Steps.Scan.{text_from}
use Rattle.d_lexer.specs.Steps.Scan.{one_longer, comment_from, mark_at, mark_front, number_front}
use Rattle.d_lexer.specs.Steps.Scan.{comment_front, head_kind, aggregation_front, text_front}
use Rattle.d_lexer.specs.Steps.Scan.{inside_at, head_at, token_at, front_at, Scanned, scan_by, scan}
use Rattle.d_lexer.proofs.Base.{both_true, Split, cond_is, run_splits, run_is, EndsAs}
use Rattle.d_lexer.proofs.Base.{inside_spells, SpellInTurn, spell_text}
use Rattle.d_lexer.proofs.Numbers.{number_is, none_is}
use Rattle.d_lexer.proofs.OptionLines.{option_is, no_option_is}
use Rattle.d_lexer.proofs.Marks.{MarkIs, mark_sound}

abbrev pub FrontIs : Place → Position → ℕ → List ℕ → Result Front Flaw → Type 0
FrontIs p pos b z (Ok (Gap m)) = Split (λ own rest. IsSeparator p pos (b ∷ own) rest) m z
FrontIs p pos b z (Ok (front.Token t m)) = Split (λ own rest. SpellsToken p (b ∷ own) rest t) m z
FrontIs p pos b z (Err g) = IsFrontFault p pos (b ∷ z) g

-- ---- comments

next_byte : (c : ℕ) (z : List ℕ) → next_is c z ≡ true → z ≡ c ∷ tail z
next_byte c [] e = absurd cc
next_byte c (b ∷ z) e = let s : b ≡ c = eqb-true b c e in rw s refl

and_false : (a : Bool) → (a && false) ≡ false
and_false true = refl
and_false false = refl

abbrev CommentIs : List ℕ → Option ℕ → Type 0
CommentIs z None = HasNoEnd z
CommentIs z (Some n) = Split (λ own rest. (body : List ℕ) × (own ≡ body ++ 42 ∷ (47 ∷ [])) × HasNoEnd body) n z

star_goes : (b : ℕ) (body z : List ℕ) → (eqb b 42 && next_is 47 (body ++ z)) ≡ false → (eqb b 42 && next_is 47 body) ≡ false
star_goes b [] z e = and_false (eqb b 42)
star_goes b (c ∷ body) z e = e

comment_more : (b : ℕ) (z : List ℕ) → (eqb b 42 && next_is 47 z) ≡ false → (o : Option ℕ) → CommentIs z o → CommentIs (b ∷ z) (one_longer o)
comment_more b z e None h = (e, h)
comment_more b z e (Some n) s =
    let body : List ℕ = s.holds.0 in
    let whole : z ≡ body ++ (42 ∷ (47 ∷ s.rest)) = s.is ∙ ap (λ (xs : List ℕ). xs ++ s.rest) s.holds.1 ∙ append_assoc body (42 ∷ (47 ∷ [])) s.rest in
    let e2 : (eqb b 42 && next_is 47 (body ++ (42 ∷ (47 ∷ s.rest)))) ≡ false = rw (← whole) e in
    record {
      own = b ∷ s.own;
      rest = s.rest;
      is = ap (λ (xs : List ℕ). b ∷ xs) s.is;
      size = ap suc s.size;
      holds = (b ∷ body, ap (λ (xs : List ℕ). b ∷ xs) s.holds.1, (star_goes b body (42 ∷ (47 ∷ s.rest)) e2, s.holds.2));
    }

comment_sound : (z : List ℕ) → CommentIs z (comment_from z)
unfolding comment_from
comment_sound [] = tt
comment_sound (b ∷ z) =
    cond_is (CommentIs (b ∷ z)) (eqb b 42 && next_is 47 z) (Some 2) (one_longer (comment_from z))
    (λ e. let h = both_true (eqb b 42) (next_is 47 z) e in
    let b_is : b ≡ 42 = eqb-true b 42 h.0 in
    let z_is : z ≡ 47 ∷ tail z = next_byte 47 z h.1 in
    record { own = b ∷ (47 ∷ []); rest = tail z; is = ap (λ (xs : List ℕ). b ∷ xs) z_is; size = refl; holds = ([], rw b_is refl, tt) })
    (λ e. comment_more b z e (comment_from z) (comment_sound z))

-- ---- text constants

-- good bytes of a text constant, and then what is wrong
abbrev BreaksText : List ℕ → Flaw → Type 0
BreaksText z g = (body : List ℕ) × (w : List ℕ) × (rest : List ℕ) × (z ≡ body ++ rest) × SpellInTurn body w × StopsText g rest

abbrev TextIs : List ℕ → Result (List ℕ × ℕ) Flaw → Type 0
TextIs z (Err g) = BreaksText z g
TextIs z (Ok t) = Split (λ own rest. (body : List ℕ) × (own ≡ body ++ 34 ∷ []) × SpellInTurn body t.0) t.1 z

text_plain : (b : ℕ) (z : List ℕ) → stands_for_itself b ≡ true → (r : Result (List ℕ × ℕ) Flaw) → TextIs z r → TextIs (b ∷ z) (with_byte b r)
text_plain b z e (Err g) h = (b ∷ h.0, b ∷ h.1, h.2, ap (λ (xs : List ℕ). b ∷ xs) h.3, (b ∷ [], h.0, refl, inl (e, refl), h.4), h.5)
text_plain b z e (Ok t) s =
    record {
      own = b ∷ s.own;
      rest = s.rest;
      is = ap (λ (xs : List ℕ). b ∷ xs) s.is;
      size = ap suc s.size;
      holds = (b ∷ s.holds.0, ap (λ (xs : List ℕ). b ∷ xs) s.holds.1, (b ∷ [], s.holds.0, refl, inl (e, refl), s.holds.2));
    }

text_escaped : (c x : ℕ) (z : List ℕ) → escape_of c ≡ Some x → (r : Result (List ℕ × ℕ) Flaw) → TextIs z r → TextIs (92 ∷ (c ∷ z)) (skip_one (with_byte x r))
text_escaped c x z e (Err g) h = (92 ∷ (c ∷ h.0), x ∷ h.1, h.2, ap (λ (xs : List ℕ). 92 ∷ (c ∷ xs)) h.3, (92 ∷ (c ∷ []), h.0, refl, inr (c, e, refl), h.4), h.5)
text_escaped c x z e (Ok t) s =
    record {
      own = 92 ∷ (c ∷ s.own);
      rest = s.rest;
      is = ap (λ (xs : List ℕ). 92 ∷ (c ∷ xs)) s.is;
      size = ap (λ (n : ℕ). suc (suc n)) s.size;
      holds = (92 ∷ (c ∷ s.holds.0), ap (λ (xs : List ℕ). 92 ∷ (c ∷ xs)) s.holds.1, (92 ∷ (c ∷ []), s.holds.0, refl, inr (c, e, refl), s.holds.2));
    }

text_escape : (c : ℕ) (z : List ℕ) (r : Result (List ℕ × ℕ) Flaw) → TextIs z r → (o : Option ℕ) → escape_of c ≡ o → TextIs (92 ∷ (c ∷ z)) (skip_one (put_escape o r))
text_escape c z r h None e = ([], [], 92 ∷ (c ∷ z), refl, refl, (c, z, refl, e))
text_escape c z r h (Some x) e = text_escaped c x z e r h

text_step : (b : ℕ) (z : List ℕ) → TextIs z (text_from false z) → TextIs (92 ∷ z) (skip_one (text_from true z)) → TextIs (b ∷ z) (text_from false (b ∷ z))
unfolding text_from
text_step b z plain escape =
    cond_is (TextIs (b ∷ z)) (eqb b 34) (Ok ([], 1)) _
    (λ e. let s : b ≡ 34 = eqb-true b 34 e in record { own = b ∷ []; rest = z; is = refl; size = refl; holds = ([], rw s refl, refl) })
    (λ e1. cond_is (TextIs (b ∷ z)) (eqb b 10) (Err f.Unclosed) _
    (λ e. let s : b ≡ 10 = eqb-true b 10 e in ([], [], b ∷ z, refl, refl, inr (inl (z, rw s refl))))
    (λ e2. cond_is (TextIs (b ∷ z)) (eqb b 0) (Err f.BadByte) _
    (λ e. let s : b ≡ 0 = eqb-true b 0 e in ([], [], b ∷ z, refl, refl, (z, rw s refl)))
    (λ e3. cond_is (TextIs (b ∷ z)) (eqb b 92) (skip_one (text_from true z)) (with_byte b (text_from false z))
    (λ e. let s : b ≡ 92 = eqb-true b 92 e in rw s escape)
    (λ e4. let is : stands_for_itself b ≡ true = rw (e1, e2, e3, e4) refl in text_plain b z is (text_from false z) plain))))

text_sound : (z : List ℕ) → TextIs z (text_from false z)
unfolding text_from
text_sound [] = ([], [], [], refl, refl, inl refl)
text_sound (b ∷ []) = text_step b [] (text_sound []) ([], [], 92 ∷ [], refl, refl, inr (inr refl))
text_sound (b ∷ c ∷ z) = text_step b (c ∷ z) (text_sound (c ∷ z)) (text_escape c z (text_from false z) (text_sound z) (escape_of c) refl)

-- ---- tokens

inside_begins : (p : Place) (b : ℕ) → is_head p ≡ false → (is_word_start b || is_ascii_digit b || eqb b 64 || eqb b 34) ≡ false → begins p b ≡ false
inside_begins Head b e h = absurd cc
inside_begins Declaration b e h = h
inside_begins Predicate b e h = h
inside_begins Body b e h = h

-- what is known of a byte that begins neither a piece nor a line
pub record IsTokenByte (p : Place) (pos : Position) (b : ℕ) (z : List ℕ) : Type 0 where
  pub no_blank : is_blank_byte b ≡ false
  pub no_comment : begins_comment (b ∷ z) ≡ false
  pub no_first : is_first pos b z ≡ false
  pub no_hash : is_hash p pos b ≡ false

mark_front_sound : (p : Place) (pos : Position) (b : ℕ) (z : List ℕ) → IsTokenByte p pos b z → begins p b ≡ false → ((own rest : List ℕ) (k : Mark) → IsMark p own rest k → SpellsToken p own rest (kind.Mark k)) →
    (o : Option (Mark × ℕ)) → MarkIs p b z o → FrontIs p pos b z (mark_front o)
mark_front_sound p pos b z h e spells None none = stray b z refl (record { no_blank = h.no_blank; no_comment = h.no_comment; no_first = h.no_first; no_hash = h.no_hash; no_token = e; no_mark = none })
mark_front_sound p pos b z h e spells (Some k) s =
    record {
      own = s.own;
      rest = s.rest;
      is = s.is;
      size = s.size;
      holds = spells (b ∷ s.own) s.rest k.0 (record { is = s.holds.0; longest = s.holds.1; no_comment = rw (← s.is) h.no_comment });
    }

run_of_is : (test : ℕ → Bool) (z : List ℕ) (s : Split (Fills test) (run_len test z) z) → front_run test z ≡ s.own
run_of_is test z s = subst (λ (xs : List ℕ). front_run test xs ≡ s.own) (sym s.is) (run_is test s.own s.rest s.holds)

number_sound : (p : Place) (pos : Position) (b : ℕ) (z : List ℕ) → is_head p ≡ false → is_ascii_digit b ≡ true → (s : Split (Fills is_word_byte) (run_len is_word_byte z) z) →
    (o : Option (ℕ × Suffix)) → number_spelled (b ∷ front_run is_word_byte z) ≡ o → FrontIs p pos b z (number_front o (run_len is_word_byte z))
number_sound p pos b z inside e s None n =
    let run : front_run is_word_byte z ≡ s.own = run_of_is is_word_byte z s in
    number (b ∷ s.own) s.rest inside (ap (λ (xs : List ℕ). b ∷ xs) s.is) (e, s.holds) (none_is b s.own e (rw (← run) n))
number_sound p pos b z inside e s (Some v) n =
    let run : front_run is_word_byte z ≡ s.own = run_of_is is_word_byte z s in
    record { own = s.own; rest = s.rest; is = s.is; size = s.size; holds = inside_spells p (b ∷ s.own) s.rest (kind.Number v.0 v.1) inside (number_is b s.own v.0 v.1 e (rw (← run) n), (e, s.holds)) }

agg_sound : (p : Place) (pos : Position) (z : List ℕ) → is_head p ≡ false → FrontIs p pos 64 z (aggregation_front z)
agg_sound p pos [] inside = record { own = []; rest = []; is = refl; size = refl; holds = inside_spells p (64 ∷ []) [] (kind.AggregationName (95 ∷ [])) inside (inl (refl, refl, tt)) }
agg_sound p pos (b ∷ z) inside =
    cond_is (FrontIs p pos 64 (b ∷ z)) (is_word_start b) (Ok (front.Token (kind.AggregationName (b ∷ front_run is_word_byte z)) (suc (run_len is_word_byte z)))) (Ok (front.Token (kind.AggregationName (95 ∷ [])) 0))
    (λ e. let s = run_splits is_word_byte z in
    let run : front_run is_word_byte z ≡ s.own = run_of_is is_word_byte z s in
    record {
      own = b ∷ s.own;
      rest = s.rest;
      is = ap (λ (xs : List ℕ). b ∷ xs) s.is;
      size = ap suc s.size;
      holds = rw run (inside_spells p (64 ∷ (b ∷ s.own)) s.rest (kind.AggregationName (b ∷ s.own)) inside (inr (refl, (e, s.holds))));
    })
    (λ e. record { own = []; rest = b ∷ z; is = refl; size = refl; holds = inside_spells p (64 ∷ []) (b ∷ z) (kind.AggregationName (95 ∷ [])) inside (inl (refl, refl, e)) })

text_front_sound : (p : Place) (pos : Position) (z : List ℕ) → is_head p ≡ false → (r : Result (List ℕ × ℕ) Flaw) → TextIs z r → FrontIs p pos 34 z (text_front r)
text_front_sound p pos z inside (Err g) h = text h.0 h.1 h.2 inside (ap (λ (xs : List ℕ). 34 ∷ xs) h.3) (spell_text h.0 h.1 h.4) h.5
text_front_sound p pos z inside (Ok t) s =
    record { own = s.own; rest = s.rest; is = s.is; size = s.size; holds = inside_spells p (34 ∷ s.own) s.rest (kind.TextConstant t.0) inside (s.holds.0, ap (λ (xs : List ℕ). 34 ∷ xs) s.holds.1, spell_text s.holds.0 t.0 s.holds.2) }

inside_sound : (p : Place) (pos : Position) (b : ℕ) (z : List ℕ) → is_head p ≡ false → IsTokenByte p pos b z → FrontIs p pos b z (inside_at p b z)
unfolding inside_at
inside_sound p pos b z inside h =
    cond_is (FrontIs p pos b z) (is_word_start b) _ _
    (λ e. let s = run_splits is_word_byte z in
    record { own = s.own; rest = s.rest; is = s.is; size = s.size; holds = rw (run_of_is is_word_byte z s) (inside_spells p (b ∷ s.own) s.rest (kind.Word (b ∷ s.own)) inside (refl, (e, s.holds))) })
    (λ e1. cond_is (FrontIs p pos b z) (is_ascii_digit b) _ _
    (λ e. number_sound p pos b z inside e (run_splits is_word_byte z) (number_spelled (b ∷ front_run is_word_byte z)) refl)
    (λ e2. cond_is (FrontIs p pos b z) (eqb b 64) _ _
    (λ e. let s : b ≡ 64 = eqb-true b 64 e in rw s (agg_sound p pos z inside))
    (λ e3. cond_is (FrontIs p pos b z) (eqb b 34) _ _
    (λ e. let s : b ≡ 34 = eqb-true b 34 e in rw s (text_front_sound p pos z inside (text_from false z) (text_sound z)))
    (λ e4. let none : (is_word_start b || is_ascii_digit b || eqb b 64 || eqb b 34) ≡ false = rw (e1, e2, e3, e4) refl in
    mark_front_sound p pos b z h (inside_begins p b inside none) (λ own rest k m. inside_spells p own rest (kind.Mark k) inside m) (mark_at p b z) (mark_sound p b z)))))

head_kind_sound : (own rest : List ℕ) → IsLongestRun is_run_byte is_run_byte own rest → SpellsToken Head own rest (head_kind own)
head_kind_sound own rest h = cond_is (λ (t : TokenKind). SpellsToken Head own rest t) (is_declaring own) (kind.Word own) (kind.DescriptionRun own) (λ e. (refl, e, h)) (λ e. (refl, e, h))

head_sound : (pos : Position) (b : ℕ) (z : List ℕ) → IsTokenByte Head pos b z → FrontIs Head pos b z (head_at b z)
unfolding head_at
head_sound pos b z h =
    cond_is (FrontIs Head pos b z) (is_run_byte b) _ _
    (λ e. let s = run_splits is_run_byte z in
    record { own = s.own; rest = s.rest; is = s.is; size = s.size; holds = rw (run_of_is is_run_byte z s) (head_kind_sound (b ∷ s.own) s.rest (e, s.holds)) })
    (λ e. mark_front_sound Head pos b z h e (λ own rest k m. m) (mark_at Head b z) (mark_sound Head b z))

token_sound : (p : Place) (pos : Position) (b : ℕ) (z : List ℕ) → IsTokenByte p pos b z → FrontIs p pos b z (token_at p b z)
unfolding token_at
token_sound Head pos b z h = head_sound pos b z h
token_sound Declaration pos b z h = inside_sound Declaration pos b z refl h
token_sound Predicate pos b z h = inside_sound Predicate pos b z refl h
token_sound Body pos b z h = inside_sound Body pos b z refl h

-- ---- what is at the front

comment_front_sound : (p : Place) (pos : Position) (z : List ℕ) (o : Option ℕ) → CommentIs z o → FrontIs p pos 47 (42 ∷ z) (comment_front o)
comment_front_sound p pos z None h = open_comment z refl h
comment_front_sound p pos z (Some n) s =
    record {
      own = 42 ∷ s.own;
      rest = s.rest;
      is = ap (λ (xs : List ℕ). 42 ∷ xs) s.is;
      size = ap suc s.size;
      holds = comment s.holds.0 (ap (λ (xs : List ℕ). 47 ∷ (42 ∷ xs)) s.holds.1) s.holds.2;
    }

first_hash : (pos : Position) (b : ℕ) (z : List ℕ) → is_first pos b z ≡ true → b ≡ 35
first_hash pos b z e = grind (arith, nat_tests)

line_hash : (p : Place) (pos : Position) (b : ℕ) → is_hash p pos b ≡ true → b ≡ 35
line_hash p pos b e = grind (arith, nat_tests)

-- the line that begins with #!
begins_line : (p : Place) (pos : Position) (own rest : List ℕ) → eqb pos.at 0 ≡ true → next_is 33 (own ++ rest) ≡ true → Fills is_inside own rest → IsSeparator p pos (35 ∷ own) rest
begins_line p pos [] [] at next h = absurd cc
begins_line p pos [] (c ∷ rest) at next h =
    let stops : is_inside 33 ≡ false = subst (λ (x : ℕ). is_inside x ≡ false) (eqb-true c 33 next) h.stops in
    absurd cc
begins_line p pos (c ∷ own) rest at next h =
    first_line own (ap (λ (x : ℕ). 35 ∷ (x ∷ own)) (eqb-true c 33 next)) (eqb-true pos.at 0 at) (record { all = h.all.1; stops = h.stops })

parts : (a c : Bool) → (a && true && c) ≡ true → (a ≡ true) × (c ≡ true)
parts true true e = (refl, refl)
parts true false e = absurd cc
parts false c e = absurd cc

first_parts : (pos : Position) (z : List ℕ) → is_first pos 35 z ≡ true → (eqb pos.at 0 ≡ true) × (next_is 33 z ≡ true)
first_parts pos z e = parts (eqb pos.at 0) (next_is 33 z) e

option_sound : (p : Place) (pos : Position) (z : List ℕ) → is_first pos 35 z ≡ false → is_hash p pos 35 ≡ true → (s : Split (Fills is_inside) (run_len is_inside z) z) →
    FrontIs p pos 35 z (cond (is_option (35 ∷ front_run is_inside z)) (Ok (Gap (run_len is_inside z))) (Err f.OptionLine))
option_sound p pos z no_first is s =
    let first : is_first pos 35 (s.own ++ s.rest) ≡ false = rw (← s.is) no_first in
    cond_is (FrontIs p pos 35 z) (is_option (35 ∷ front_run is_inside z)) _ _
    (λ e. record { own = s.own; rest = s.rest; is = s.is; size = s.size; holds = option_line is (option_is (35 ∷ s.own) (rw (← run_of_is is_inside z s) e)) (record { all = (refl, s.holds.all); stops = s.holds.stops }) })
    (λ e. other_option s.own s.rest (ap (λ (xs : List ℕ). 35 ∷ xs) s.is) first is (no_option_is (35 ∷ s.own) (rw (← run_of_is is_inside z s) e)) s.holds)

pub front_sound : (p : Place) (pos : Position) (b : ℕ) (z : List ℕ) → FrontIs p pos b z (front_at p pos b z)
unfolding front_at
front_sound p pos b z =
    cond_is (FrontIs p pos b z) (is_blank_byte b) _ _
    (λ e. record { own = []; rest = z; is = refl; size = refl; holds = blank b refl e })
    (λ e1. cond_is (FrontIs p pos b z) (begins_comment (b ∷ z)) _ _
    (λ e. let h = both_true (eqb b 47) (next_is 42 z) e in
    let b_is : b ≡ 47 = eqb-true b 47 h.0 in
    let z_is : z ≡ 42 ∷ tail z = next_byte 42 z h.1 in
    subst (λ (xs : List ℕ). FrontIs p pos b xs (comment_front (comment_from (tail z)))) (sym z_is) (rw b_is (comment_front_sound p pos (tail z) (comment_from (tail z)) (comment_sound (tail z)))))
    (λ e2. cond_is (FrontIs p pos b z) (is_first pos b z) _ _
    (λ e. let s = run_splits is_inside z in
    let b_is : b ≡ 35 = first_hash pos b z e in
    let first : is_first pos 35 (s.own ++ s.rest) ≡ true = rw (← s.is) (subst (λ (x : ℕ). is_first pos x z ≡ true) b_is e) in
    let q = first_parts pos (s.own ++ s.rest) first in
    let line = begins_line p pos s.own s.rest q.0 q.1 s.holds in
    record { own = s.own; rest = s.rest; is = s.is; size = s.size; holds = subst (λ (x : ℕ). IsSeparator p pos (x ∷ s.own) s.rest) (sym b_is) line })
    (λ e3. cond_is (FrontIs p pos b z) (is_hash p pos b) _ _
    (λ e. let b_is : b ≡ 35 = line_hash p pos b e in
    let g : is_first pos 35 z ≡ false = subst (λ (x : ℕ). is_first pos x z ≡ false) b_is e3 in
    let i : is_hash p pos 35 ≡ true = subst (λ (x : ℕ). is_hash p pos x ≡ true) b_is e in
    rw b_is (option_sound p pos z g i (run_splits is_inside z)))
    (λ e4. token_sound p pos b z (record { no_blank = e1; no_comment = e2; no_first = e3; no_hash = e4 })))))

-- ---- all of the text

past_gap : (p : Place) (pos : Position) (bytes own rest : List ℕ) (ts : List Token) (end : TokensEnd) → bytes ≡ own ++ rest → IsSeparator p pos own rest → Lexes (EndsAs end) p (position_after pos own) rest ts → Lexes (EndsAs end) p pos bytes ts
past_gap p pos bytes own rest [] end is h l = past own rest is h l
past_gap p pos bytes own rest (t ∷ ts) end is h l = past own rest is h l

abbrev IsRight : Place → Position → List ℕ → Scanned → Type 0
IsRight p pos bytes s = Lexes (EndsAs s.1) p pos bytes s.0

by_front : (p : Place) (pos : Position) (b : ℕ) (z : List ℕ) →
    ((n : ℕ) (q : Place) (own rest : List ℕ) → z ≡ own ++ rest → n ≡ length own → IsRight q (position_after (after_byte pos b) own) rest (scan n q (after_byte pos b) z)) →
    (r : Result Front Flaw) → FrontIs p pos b z r → IsRight p pos (b ∷ z) (scan_by (λ n q. scan n q (after_byte pos b) z) p pos r)
by_front p pos b z go (Err g) h = here (g, h, refl)
by_front p pos b z go (Ok (Gap n)) s =
    let then = scan n p (after_byte pos b) z in
    past_gap p pos (b ∷ z) (b ∷ s.own) s.rest then.0 then.1 (ap (λ (xs : List ℕ). b ∷ xs) s.is) s.holds (go n p s.own s.rest s.is s.size)
by_front p pos b z go (Ok (front.Token t n)) s =
    here (b ∷ s.own, s.rest, ap (λ (xs : List ℕ). b ∷ xs) s.is, s.holds, refl, ap (λ (k : ℕ). pos.at + suc k) s.size, refl, go n (place_after p t) s.own s.rest s.is s.size)

-- what scan gives when n bytes are to be passed is right for what comes after these
pub scan_sound : (bytes own rest : List ℕ) (n : ℕ) (p : Place) (pos : Position) → bytes ≡ own ++ rest → n ≡ length own → IsRight p (position_after pos own) rest (scan n p pos bytes)
unfolding scan
scan_sound [] [] rest n p pos is size = here (sym is)
scan_sound [] (c ∷ own) rest n p pos is size = absurd cc
scan_sound (b ∷ z) [] rest zero p pos is size =
    subst (λ (xs : List ℕ). IsRight p pos xs (scan 0 p pos (b ∷ z))) is
    (by_front p pos b z (λ n q own2 rest2 e f. scan_sound z own2 rest2 n q (after_byte pos b) e f) (front_at p pos b z) (front_sound p pos b z))
scan_sound (b ∷ z) [] rest (suc n) p pos is size = absurd (omega arith)
scan_sound (b ∷ z) (c ∷ own) rest zero p pos is size = absurd (omega arith)
scan_sound (b ∷ z) (c ∷ own) rest (suc n) p pos is size =
    let same : b ≡ c = cc in
    let more : z ≡ own ++ rest = cc in
    subst (λ (x : ℕ). IsRight p (position_after (after_byte pos x) own) rest (scan n p (after_byte pos b) z)) same (scan_sound z own rest n p (after_byte pos b) more (omega arith))

pub whole_sound : (p : Place) (pos : Position) (bytes : List ℕ) → IsRight p pos bytes (scan 0 p pos bytes)
whole_sound p pos bytes = scan_sound bytes [] bytes 0 p pos refl refl
