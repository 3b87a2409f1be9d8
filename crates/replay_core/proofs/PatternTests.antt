-- The tests of patterns decide what they are to say.
use Rattle.std.proofs.Common.{◌≡◌, ◌≢◌, ℕ, suc, ◌==◌, inl, inr, ⊎_elim, ◌↔◌, Bool, true, false}
use Rattle.std.proofs.Common.{cond, ◌&&◌, List, [], ◌∷◌, ◌++◌, length, All, refl, sym, ap, ◌∙◌}
use Rattle.std.proofs.Common.{subst, arith, not, IsTrue, take, ◌≤◌, zip}
use Rattle.std.specs.List.{list_all}
use Rattle.std.proofs.lemmas.Bool.{and_from, and_parts, both_ways, not-true, or_cases, or_left}
use Rattle.std.proofs.lemmas.Bool.{or_right}
use Rattle.std.proofs.lemmas.Bool.Decides.{Decides-and, Decides-eqb, same_from_decides}
use Rattle.firings.specs.declared.unit.Probe.{Probe}
use Rattle.replay_core.specs.Vocabulary.{Description}
use Rattle.replay_core.specs.Patterns.{Selects, selects, Takes, Matches, MatchesField}
use Rattle.replay_core.specs.Patterns.{is_same_or_question, passes_after, passes_after_one, matches}
use Rattle.replay_core.specs.Patterns.{field_matches}
use Rattle.replay_core.specs.Steps.Patterns.{is_plain}

-- ---- one byte

same_takes : (p b : ℕ) → is_same_or_question (p, b) ≡ true → Takes p (b ∷ [])
same_takes p b e = ⊎_elim
    (λ (x : (p == b) ≡ true). Takes.itself (ap (λ n. n ∷ []) (sym ((Decides-eqb p b).0 x))))
    (λ (x : (p == 63) ≡ true). Takes.one b ((Decides-eqb p 63).0 x) refl)
    (or_cases (p == b) (p == 63) e)

takes_same : (p b : ℕ) → p ≢ 42 → Takes p (b ∷ []) → is_same_or_question (p, b) ≡ true
takes_same p b plain (Takes.any e) = absurd (plain e)
takes_same p b plain (Takes.one c q e) = or_right (p == b) (p == 63) ((Decides-eqb p 63).1 q)
takes_same p b plain (Takes.itself e) = let same : p ≡ b = cc in or_left (p == b) (p == 63) ((Decides-eqb p b).1 same)

-- what takes one byte, and that byte
takes_byte : (p : ℕ) (own : List ℕ) → p ≢ 42 → Takes p own → (b : ℕ) × (own ≡ b ∷ [])
takes_byte p own plain (Takes.any e) = absurd (plain e)
takes_byte p own plain (Takes.one b q e) = (b, e)
takes_byte p own plain (Takes.itself e) = (p, e)

-- a test that passes after that byte
passes_one : (p : ℕ) (test : List ℕ → Bool) (own rest text : List ℕ) → p ≢ 42 → Takes p own → text ≡ own ++ rest → test rest ≡ true → passes_after_one p test text ≡ true
passes_one p test own rest text plain takes e t =
    let byte = takes_byte p own plain takes in
    let is : text ≡ byte.0 ∷ rest = e ∙ ap (λ l. l ++ rest) byte.1 in
    subst (λ l. passes_after_one p test l ≡ true) (sym is)
    (and_from (is_same_or_question (p, byte.0)) (test rest) (takes_same p byte.0 plain (subst (Takes p) byte.1 takes)) t)

-- ---- runs without stars

pub zip_front : (run text : List ℕ) → zip run (take (length run) text) ≡ zip run text
zip_front [] text = refl
zip_front (p ∷ run) [] = refl
zip_front (p ∷ run) (b ∷ text) = ap (λ l. (p, b) ∷ l) (zip_front run text)

pub fits_there : (run text : List ℕ) → length run ≤ length text → list_all is_same_or_question (zip run text) ≡ true → Matches run (take (length run) text)
fits_there [] text long e = refl
fits_there (p ∷ run) [] long e = absurd (omega arith)
fits_there (p ∷ run) (b ∷ text) long e =
    let both = and_parts (is_same_or_question (p, b)) (list_all is_same_or_question (zip run text)) e in
    (b ∷ [], take (length run) text, refl, same_takes p b both.0, fits_there run text (omega arith) both.1)

pub fits_back : (run text : List ℕ) → All (λ p. p ≢ 42) run → Matches run text → list_all is_same_or_question (zip run text) ≡ true
fits_back [] [] plain m = refl
fits_back [] (b ∷ text) plain m = cc
fits_back (p ∷ run) text plain m =
    let own : p ≢ 42 = plain 0 p (omega arith) in
    let byte = takes_byte p m.0 own m.3 in
    let is : text ≡ byte.0 ∷ m.1 = m.2 ∙ ap (λ l. l ++ m.1) byte.1 in
    subst (λ l. list_all is_same_or_question (zip (p ∷ run) l) ≡ true) (sym is)
    (and_from (is_same_or_question (p, byte.0)) (list_all is_same_or_question (zip run m.1))
    (takes_same p byte.0 own (subst (Takes p) byte.1 m.3))
    (fits_back run m.1 (λ k d lt. plain (suc k) d (omega arith)) m.4))

-- ---- literal patterns

match_itself : (pattern : List ℕ) → Matches pattern pattern
match_itself [] = refl
match_itself (p ∷ pattern) = (p ∷ [], pattern, refl, Takes.itself refl, match_itself pattern)

plain_takes : (p : ℕ) (own : List ℕ) → is_plain p ≡ true → Takes p own → own ≡ p ∷ []
plain_takes p own plain (Takes.any e) = absurd (both_ways (p == 42) (not-true (p == 42) (and_parts (not (p == 42)) (not (p == 63)) plain).0) ((Decides-eqb p 42).1 e))
plain_takes p own plain (Takes.one b q e) = absurd (both_ways (p == 63) (not-true (p == 63) (and_parts (not (p == 42)) (not (p == 63)) plain).1) ((Decides-eqb p 63).1 q))
plain_takes p own plain (Takes.itself e) = e

literal_is : (pattern text : List ℕ) → list_all is_plain pattern ≡ true → Matches pattern text → pattern ≡ text
literal_is [] text plain m = sym m
literal_is (p ∷ pattern) text plain m =
    let both = and_parts (is_plain p) (list_all is_plain pattern) plain in
    ap (λ l. p ∷ l) (literal_is pattern m.1 both.1 m.4) ∙ sym (m.2 ∙ ap (λ l. l ++ m.1) (plain_takes p m.0 both.0 m.3))

pub literal : (pattern text : List ℕ) → list_all is_plain pattern ≡ true → (pattern ≡ text) ↔ Matches pattern text
literal pattern text plain = (λ e. subst (Matches pattern) e (match_itself pattern), literal_is pattern text plain)

-- ---- any pattern

after_there : (test : List ℕ → Bool) (text : List ℕ) → passes_after test text ≡ true → (a : List ℕ) × (b : List ℕ) × (text ≡ a ++ b) × (test b ≡ true)
after_there test [] e = ([], [], refl, e)
after_there test (b ∷ text) e = ⊎_elim
    (λ (x : test (b ∷ text) ≡ true). ([], b ∷ text, refl, x))
    (λ (x : passes_after test text ≡ true). let r = after_there test text x in (b ∷ r.0, r.1, ap (λ l. b ∷ l) r.2, r.3))
    (or_cases (test (b ∷ text)) (passes_after test text) e)

after_back : (test : List ℕ → Bool) (text a b : List ℕ) → text ≡ a ++ b → test b ≡ true → passes_after test text ≡ true
after_back test [] [] b e t = ap test e ∙ t
after_back test (y ∷ text) [] b e t = or_left (test (y ∷ text)) (passes_after test text) (ap test e ∙ t)
after_back test [] (x ∷ a) b e t = cc
after_back test (y ∷ text) (x ∷ a) b e t =
    let rest : text ≡ a ++ b = cc in
    or_right (test (y ∷ text)) (passes_after test text) (after_back test text a b rest t)

step_there : (p : ℕ) (pattern text : List ℕ) (c : Bool) → (p == 42) ≡ c → ((rest : List ℕ) → matches pattern rest ≡ true → Matches pattern rest)
    → cond c (passes_after (matches pattern) text) (passes_after_one p (matches pattern) text) ≡ true → Matches (p ∷ pattern) text
step_there p pattern text true is more e = let r = after_there (matches pattern) text e in (r.0, r.1, r.2, Takes.any ((Decides-eqb p 42).0 is), more r.1 r.3)
step_there p pattern [] false is more e = cc
step_there p pattern (b ∷ text) false is more e =
    let both = and_parts (is_same_or_question (p, b)) (matches pattern text) e in
    (b ∷ [], text, refl, same_takes p b both.0, more text both.1)

pub matches_there : (pattern text : List ℕ) → matches pattern text ≡ true → Matches pattern text
matches_there [] [] e = refl
matches_there [] (b ∷ text) e = cc
matches_there (p ∷ pattern) text e = step_there p pattern text (p == 42) refl (matches_there pattern) e

step_back : (p : ℕ) (pattern text : List ℕ) (c : Bool) → (p == 42) ≡ c → ((rest : List ℕ) → Matches pattern rest → matches pattern rest ≡ true)
    → Matches (p ∷ pattern) text → cond c (passes_after (matches pattern) text) (passes_after_one p (matches pattern) text) ≡ true
step_back p pattern text true is more m = after_back (matches pattern) text m.0 m.1 m.2 (more m.1 m.4)
step_back p pattern text false is more m =
    let plain : p ≢ 42 = λ e. let x = (Decides-eqb p 42).1 e in cc in
    passes_one p (matches pattern) m.0 m.1 text plain m.3 m.2 (more m.1 m.4)

pub matches_back : (pattern text : List ℕ) → Matches pattern text → matches pattern text ≡ true
matches_back [] [] m = refl
matches_back [] (b ∷ text) m = cc
matches_back (p ∷ pattern) text m = step_back p pattern text (p == 42) refl (matches_back pattern) m

pub matches_is : (pattern text : List ℕ) → IsTrue (matches pattern text) ↔ Matches pattern text
matches_is pattern text = (matches_there pattern text, matches_back pattern text)

pub field_is : (pattern text : List ℕ) → IsTrue (field_matches pattern text) ↔ MatchesField pattern text
field_is [] text = (λ e. inl refl, λ m. refl)
field_is (p ∷ pattern) text = (λ e. inr (matches_there (p ∷ pattern) text e), λ m. ⊎_elim (λ (e : (p ∷ pattern) ≡ []). cc) (λ (x : Matches (p ∷ pattern) text). matches_back (p ∷ pattern) text x) m)

-- an answer on the pattern is one on the field, where it isn't empty
pub field_answer : (pattern text : List ℕ) (r : Bool) → pattern ≢ [] → (IsTrue r ↔ Matches pattern text) → r ≡ field_matches pattern text
field_answer [] text r some is = absurd (some refl)
field_answer (p ∷ pattern) text r some is = same_from_decides r (matches (p ∷ pattern) text) is (matches_is (p ∷ pattern) text)

-- the test of a description decides whether it matches
pub selected : (d : Description) (p : Probe) → IsTrue (selects d p) ↔ Selects d p
selected d p =
    let a = field_matches d.provider p.provider in
    let b = field_matches d.«module» p.probemod in
    let f = field_matches d.function p.probefunc in
    let n = field_matches d.name p.name in
    let first = Decides-and a b (field_is d.provider p.provider) (field_is d.«module» p.probemod) in
    let all = Decides-and (a && b && f) n (Decides-and (a && b) f first (field_is d.function p.probefunc)) (field_is d.name p.name) in (
      λ e. let is = all.0 e in record { provider = is.0.0.0; probemod = is.0.0.1; probefunc = is.0.1; name = is.1 },
      λ m. all.1 (((m.provider, m.probemod), m.probefunc), m.name),
    )
