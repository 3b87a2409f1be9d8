-- A line is read as an option line exactly where it is one.
use Rattle.std.proofs.Common.{◌≡◌, eqb, ℕ, Bool, true, false, List, [], ◌∷◌, ◌++◌, Option, Some}
use Rattle.std.proofs.Common.{None, Bor, ◌≢◌, MatchOption, refl, sym, ap, ◌∙◌, append_assoc}
use Rattle.std.proofs.lemmas.Bool.{eqb-true, eq-eqb}
use Rattle.std.specs.List.{AllByRecursion}
use Rattle.std.specs.Prelude.{codes}
use Rattle.d_lexer.specs.Bytes.{is_space}
use Rattle.d_lexer.specs.OptionLine.{is_trailing, AreSpaces, IsOptionLine}
use Rattle.d_lexer.specs.Steps.OptionLine.{FindsBytes, after_option_word, skip_spaces, after_spaces}
use Rattle.d_lexer.specs.Steps.OptionLine.{is_trail, found_then}
use Rattle.d_lexer.specs.Steps.OptionLine.{ends_line, next_word, option_words}
use Rattle.d_lexer.specs.Steps.OptionLine.{after_option_words, is_option}
use Rattle.d_lexer.proofs.Base.{both_true, cond_is}

-- ---- the words of an option line, one after the other

-- these words with spaces before each, and then perhaps spaces and carriage returns
abbrev AreSpacedWords : List (List ℕ) → List ℕ → Type 0
AreSpacedWords [] z = AllByRecursion (λ c. is_trailing c ≡ true) z
AreSpacedWords (w ∷ ws) z =
    (own : List ℕ) × (rest : List ℕ) × AreSpaces own × (z ≡ own ++ (w ++ rest))
    × AreSpacedWords ws rest

abbrev IsSpacedLine : List ℕ → Type 0
IsSpacedLine own = (rest : List ℕ) × (own ≡ codes "#pragma" ++ rest) × AreSpacedWords option_words rest

-- what is joined from the left is joined from the right
joined : (a b c d e f g z : List ℕ) → a ++ b ++ c ++ d ++ e ++ f ++ g ++ z ≡ a ++ (b ++ (c ++ (d ++ (e ++ (f ++ (g ++ z))))))
joined a b c d e f g z =
    append_assoc (a ++ b ++ c ++ d ++ e ++ f) g z ∙ append_assoc (a ++ b ++ c ++ d ++ e) f (g ++ z)
    ∙ append_assoc (a ++ b ++ c ++ d) e (f ++ (g ++ z)) ∙ append_assoc (a ++ b ++ c) d (e ++ (f ++ (g ++ z)))
    ∙ append_assoc (a ++ b) c (d ++ (e ++ (f ++ (g ++ z)))) ∙ append_assoc a b (c ++ (d ++ (e ++ (f ++ (g ++ z)))))

pub spaced_of : (own : List ℕ) → IsOptionLine own → IsSpacedLine own
spaced_of own (a, b, c, end, first, second, third, trail, is) = (
  a ++ (codes "D" ++ (b ++ (codes "option" ++ (c ++ (codes "quiet" ++ end))))),
  is ∙ joined (codes "#pragma") a (codes "D") b (codes "option") c (codes "quiet") end,
  (
    a,
    b ++ (codes "option" ++ (c ++ (codes "quiet" ++ end))),
    first,
    refl,
    (b, c ++ (codes "quiet" ++ end), second, refl, (c, end, third, refl, trail)),
  ),
)

line_of : (own : List ℕ) → IsSpacedLine own → IsOptionLine own
line_of own (rest, is, (a, after, first, rest_is, (b, later, second, after_is, (c, end, third, later_is, trail)))) = (
  a,
  b,
  c,
  end,
  first,
  second,
  third,
  trail,
  is ∙ ap (λ (xs : List ℕ). codes "#pragma" ++ xs) (rest_is
      ∙ ap (λ (xs : List ℕ). a ++ (codes "D" ++ xs)) (after_is
      ∙ ap (λ (xs : List ℕ). b ++ (codes "option" ++ xs)) later_is))
      ∙ sym (joined (codes "#pragma") a (codes "D") b (codes "option") c (codes "quiet") end),
)

-- ---- what is read is an option line

later_is : (w z r : List ℕ) → after_option_word w z ≡ Some r → z ≡ w ++ r
unfolding after_option_word
later_is [] z r e = cc
later_is (c ∷ w) [] r e = absurd cc
later_is (c ∷ w) (b ∷ z) r e =
    cond_is (λ (o : Option (List ℕ)). o ≡ Some r → (b ∷ z) ≡ c ∷ (w ++ r)) (eqb b c) (after_option_word w z) None
    (λ same f. let b_is : b ≡ c = eqb-true b c same in rw b_is (ap (λ (xs : List ℕ). c ∷ xs) (later_is w z r f)))
    (λ _ f. absurd cc)
    e

-- spaces in front of the rest
abbrev Spaced : List ℕ → List ℕ → Type 0
Spaced z r = (own : List ℕ) × AllByRecursion (λ c. is_space c ≡ true) own × (z ≡ own ++ r)

skip_is : (z : List ℕ) → Spaced z (skip_spaces z)
unfolding skip_spaces
skip_is [] = ([], tt, refl)
skip_is (b ∷ z) =
    cond_is (Spaced (b ∷ z)) (is_space b) (skip_spaces z) (b ∷ z)
    (λ e. let s = skip_is z in (b ∷ s.0, (e, s.1), ap (λ (xs : List ℕ). b ∷ xs) s.2))
    (λ _. ([], tt, refl))

spaces_is : (z r : List ℕ) → after_spaces z ≡ Some r → (own : List ℕ) × AreSpaces own × (z ≡ own ++ r)
unfolding after_spaces
spaces_is [] r e = absurd cc
spaces_is (b ∷ z) r e =
    cond_is (λ (o : Option (List ℕ)). o ≡ Some r → (own : List ℕ) × AreSpaces own × ((b ∷ z) ≡ own ++ r)) (is_space b) (Some (skip_spaces z)) None
    (λ space f. let s = skip_is z in let r_is : skip_spaces z ≡ r = cc in (b ∷ s.0, (space, s.1), ap (λ (xs : List ℕ). b ∷ xs) (s.2 ∙ ap (λ (xs : List ℕ). s.0 ++ xs) r_is)))
    (λ _ f. absurd cc)
    e

trail_is : (z : List ℕ) → is_trail z ≡ true → AllByRecursion (λ c. is_trailing c ≡ true) z
trail_is [] e = tt
trail_is (b ∷ z) e = let h = both_true (is_trailing b) (is_trail z) e in (h.0, trail_is z h.1)

-- what is after the first search, where both find
abbrev Found : Option (List ℕ) → (List ℕ → Option (List ℕ)) → Type 0
Found o k = (z : List ℕ) × (o ≡ Some z) × (ends_line (k z) ≡ true)

found : (o : Option (List ℕ)) (k : List ℕ → Option (List ℕ)) → ends_line (found_then o k) ≡ true → Found o k
found None k e = absurd cc
found (Some z) k e = (z, refl, e)

-- a search that finds, and then another
both_found : (o : Option (List ℕ)) (k : List ℕ → Option (List ℕ)) (r : List ℕ) → found_then o k ≡ Some r → (z : List ℕ) × (o ≡ Some z) × (k z ≡ Some r)
both_found None k r e = absurd cc
both_found (Some z) k r e = (z, refl, e)

words_are : (ws : List (List ℕ)) (z : List ℕ) → ends_line (after_option_words ws z) ≡ true → AreSpacedWords ws z
words_are [] z e = trail_is z e
words_are (w ∷ ws) z e =
    let s = found (next_word w z) (after_option_words ws) e in
    let t = both_found (after_spaces z) (after_option_word w) s.0 s.1 in
    let own = spaces_is z t.0 t.1 in
    (own.0, s.0, own.1, own.2 ∙ ap (λ (xs : List ℕ). own.0 ++ xs) (later_is w t.0 s.0 t.2), words_are ws s.0 s.2)

pub option_is : (own : List ℕ) → is_option own ≡ true → IsOptionLine own
unfolding is_option
option_is own e =
    let s = found (after_option_word (codes "#pragma") own) (after_option_words option_words) e in
    line_of own (s.0, later_is (codes "#pragma") own s.0 s.1, words_are option_words s.0 s.2)

-- ---- an option line is read

later_own : (w r : List ℕ) → after_option_word w (w ++ r) ≡ Some r
unfolding after_option_word
later_own [] r = refl
later_own (c ∷ w) r = rw (eq-eqb c c refl) (later_own w r)

-- no space is at the front
abbrev BeginsWord : List ℕ → Type 0
BeginsWord [] = ⊥
BeginsWord (b ∷ z) = is_space b ≡ false

skip_own : (own w r : List ℕ) → AllByRecursion (λ c. is_space c ≡ true) own → BeginsWord w → skip_spaces (own ++ (w ++ r)) ≡ w ++ r
unfolding skip_spaces
skip_own [] [] r h word = absurd word
skip_own [] (b ∷ w) r h word = rw word refl
skip_own (c ∷ own) w r h word = let s = h.0 in rw s (skip_own own w r h.1 word)

spaces_own : (own w r : List ℕ) → AreSpaces own → BeginsWord w → after_spaces (own ++ (w ++ r)) ≡ Some (w ++ r)
unfolding after_spaces
spaces_own [] w r h word = absurd h
spaces_own (c ∷ own) w r h word = let s = h.0 in rw (s, skip_own own w r h.1 word) refl

trail_own : (z : List ℕ) → AllByRecursion (λ c. is_trailing c ≡ true) z → is_trail z ≡ true
trail_own [] h = refl
trail_own (b ∷ z) h = rw (h.0, trail_own z h.1) refl

abbrev AllBegin : List (List ℕ) → Type 0
AllBegin ws = AllByRecursion BeginsWord ws

words_read : (ws : List (List ℕ)) (z : List ℕ) → AllBegin ws → AreSpacedWords ws z → ends_line (after_option_words ws z) ≡ true
words_read [] z begin h = trail_own z h
words_read (w ∷ ws) z begin h =
    let e : after_spaces z ≡ Some (w ++ h.1) = ap after_spaces h.3 ∙ spaces_own h.0 w h.1 h.2 begin.0 in
    rw (e, later_own w h.1) (words_read ws h.1 begin.1 h.4)

pub option_reads : (own : List ℕ) → IsOptionLine own → is_option own ≡ true
unfolding is_option
option_reads own line =
    let h = spaced_of own line in
    let e : after_option_word (codes "#pragma") own ≡ Some h.0 = ap (after_option_word (codes "#pragma")) h.1 ∙ later_own (codes "#pragma") h.0 in
    rw e (words_read option_words h.0 (refl, (refl, (refl, tt))) h.2)

pub no_option_is : (own : List ℕ) → is_option own ≡ false → IsOptionLine own → ⊥
no_option_is own e h = let f = option_reads own h in cc

pub no_option_reads : (own : List ℕ) → (IsOptionLine own → ⊥) → is_option own ≡ false
no_option_reads own none = by (is_option own) refl where
  by : (c : Bool) → is_option own ≡ c → c ≡ false
  by true e = absurd (none (option_is own e))
  by false e = refl

-- what is left after a prefix
pub later_found : (w z : List ℕ) (r : Option (Bor (List ℕ))) → MatchOption r ((rest : List ℕ) → z ≢ w ++ rest) (λ x. z ≡ w ++ x.now) → FindsBytes (λ x. x.now) r (after_option_word w z)
later_found w z (Some x) h = ap (after_option_word w) h ∙ later_own w x.now
later_found w z None h = by (after_option_word w z) refl where
  by : (o : Option (List ℕ)) → after_option_word w z ≡ o → o ≡ None
  by None e = refl
  by (Some rest) e = absurd (h rest (later_is w z rest e))
