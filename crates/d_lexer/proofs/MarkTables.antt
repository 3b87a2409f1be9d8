-- The tables by the number of bytes hold the marks of each place, and no others.
use Rattle.std.proofs.Common.{◌≡◌, eqb, ◌&&◌, ℕ, Bool, true, false, cond, List, [], ◌∷◌, Option, Some}
use Rattle.std.proofs.Common.{None, refl, ap, ◌∙◌, rules}
use Rattle.std.proofs.lemmas.Bool.{eqb-true}
use Rattle.std.proofs.lemmas.Slice.Eq.{bytes_eq-Decides}
use Rattle.std.specs.List.{list_all}
use Rattle.std.specs.{Str.bytes_eq, Map.lookup}
use denote.Enum.Bare.{sameb, same_true}
use Rattle.d_lexer.specs.contracts.token.Mark.{the_type}
use Rattle.d_lexer.specs.declared.token.Mark.{Mark}
use Rattle.d_lexer.specs.declared.token.Mark.TheVariants as m
use Rattle.d_lexer.specs.declared.place.Place.{Place}
use Rattle.d_lexer.specs.declared.place.Place.TheVariants.{Head, Declaration, Predicate, Body}
use Rattle.d_lexer.specs.Steps.Marks.{entry_of}
use Rattle.d_lexer.specs.Marks.{marks_in, mark_of}
use Rattle.d_lexer.specs.Steps.Marks.{singles, of_head, doubles, settings, shift_marks, arrows, mark_by}
use Rattle.d_lexer.proofs.Base.{both_true, cond_is}

abbrev is_mark : Option Mark → Mark → Bool
is_mark None k = false
is_mark (Some j) k = sameb the_type j k

is_mark_true : (o : Option Mark) (k : Mark) → is_mark o k ≡ true → o ≡ Some k
is_mark_true None k e = absurd cc
is_mark_true (Some j) k e = let same : j ≡ k = same_true the_type (search rules) j k e in ap (λ (i : Mark). Some i) same

-- ---- each entry of a table is a mark

abbrev AreMarks : Place → (ℕ → List ℕ) → List (ℕ × Mark) → Bool
AreMarks p bytes table = list_all (λ e. is_mark (mark_of p (bytes e.0)) e.1) table

in_table : (p : Place) (bytes : ℕ → List ℕ) (table : List (ℕ × Mark)) (b : ℕ) (k : Mark) → AreMarks p bytes table ≡ true → entry_of table b ≡ Some k → mark_of p (bytes b) ≡ Some k
in_table p bytes [] b k h e = absurd cc
in_table p bytes (x ∷ table) b k h e =
    let both = both_true (is_mark (mark_of p (bytes x.0)) x.1) (AreMarks p bytes table) h in
    cond_is (λ (o : Option Mark). o ≡ Some k → mark_of p (bytes b) ≡ Some k) (eqb b x.0) (Some x.1) (entry_of table b)
    (λ same f. let b_is : b ≡ x.0 = eqb-true b x.0 same in ap (λ (c : ℕ). mark_of p (bytes c)) b_is ∙ is_mark_true (mark_of p (bytes x.0)) x.1 both.0 ∙ f)
    (λ _ f. in_table p bytes table b k both.1 f)
    e

abbrev one : ℕ → List ℕ
one a = a ∷ []

abbrev twice : ℕ → List ℕ
twice a = a ∷ (a ∷ [])

abbrev assigned : ℕ → List ℕ
assigned a = a ∷ (61 ∷ [])

abbrev pointed : ℕ → List ℕ
pointed a = a ∷ (62 ∷ [])

abbrev shifted : ℕ → List ℕ
shifted a = a ∷ (a ∷ (61 ∷ []))

-- the tables of two and of three bytes, in a place
record HasTables (p : Place) : Type 0 where
  settings_are : AreMarks p assigned settings ≡ true
  doubles_are : AreMarks p twice doubles ≡ true
  arrows_are : AreMarks p pointed arrows ≡ true
  shifts_are : AreMarks p shifted shift_marks ≡ true

of_declaration : HasTables Declaration
unfolding mark_of
of_declaration = record { settings_are = refl; doubles_are = refl; arrows_are = refl; shifts_are = refl }

of_predicate : HasTables Predicate
unfolding mark_of
of_predicate = record { settings_are = refl; doubles_are = refl; arrows_are = refl; shifts_are = refl }

of_body : HasTables Body
unfolding mark_of
of_body = record { settings_are = refl; doubles_are = refl; arrows_are = refl; shifts_are = refl }

singles_of_declaration : AreMarks Declaration one singles ≡ true
unfolding mark_of
singles_of_declaration = refl

singles_of_body : AreMarks Body one singles ≡ true
unfolding mark_of
singles_of_body = refl

marks_of_head : AreMarks Head one of_head ≡ true
unfolding mark_of
marks_of_head = refl

slash_of_predicate : mark_of Predicate (47 ∷ []) ≡ Some m.ClosingSlash
unfolding mark_of
slash_of_predicate = refl

-- in a predicate a byte that is no slash is the mark that it is in a body
same_but_slash : (a : ℕ) → eqb a 47 ≡ false → mark_of Predicate (a ∷ []) ≡ mark_of Body (a ∷ [])
unfolding mark_of
same_but_slash a other = rw other refl

two_found : (p : Place) (a b : ℕ) (k : Mark) → HasTables p → cond (eqb b 61) (entry_of settings a) (cond (eqb a b) (entry_of doubles a) (cond (eqb b 62) (entry_of arrows a) None)) ≡ Some k
    → mark_of p (a ∷ (b ∷ [])) ≡ Some k
two_found p a b k t e =
    let P : Option Mark → Type 0 = λ o. o ≡ Some k → mark_of p (a ∷ (b ∷ [])) ≡ Some k in
    cond_is P (eqb b 61) (entry_of settings a) _
    (λ same f. let b_is : b ≡ 61 = eqb-true b 61 same in rw b_is (in_table p assigned settings a k t.settings_are f))
    (λ _ f. cond_is P (eqb a b) (entry_of doubles a) _
    (λ same g. let b_is : a ≡ b = eqb-true a b same in rw (← b_is) (in_table p twice doubles a k t.doubles_are g))
    (λ _ g. cond_is P (eqb b 62) (entry_of arrows a) None (λ same h. let b_is : b ≡ 62 = eqb-true b 62 same in rw b_is (in_table p pointed arrows a k t.arrows_are h)) (λ _ h. absurd cc) g)
    f)
    e

three_found : (p : Place) (a b c : ℕ) (k : Mark) → HasTables p → cond (eqb c 61 && eqb a b) (entry_of shift_marks a) None ≡ Some k → mark_of p (a ∷ (b ∷ (c ∷ []))) ≡ Some k
three_found p a b c k t e =
    cond_is (λ (o : Option Mark). o ≡ Some k → mark_of p (a ∷ (b ∷ (c ∷ []))) ≡ Some k) (eqb c 61 && eqb a b) (entry_of shift_marks a) None
    (λ same f.
    let both = both_true (eqb c 61) (eqb a b) same in
    let c_is : c ≡ 61 = eqb-true c 61 both.0 in
    let b_is : a ≡ b = eqb-true a b both.1 in
    rw (c_is, ← b_is) (in_table p shifted shift_marks a k t.shifts_are f))
    (λ _ f. absurd cc)
    e

pub mark_found : (p : Place) (own : List ℕ) (k : Mark) → mark_by p own ≡ Some k → mark_of p own ≡ Some k
unfolding mark_by
mark_found p [] k e = absurd cc
mark_found Head (a ∷ []) k e = in_table Head one of_head a k marks_of_head e
mark_found Declaration (a ∷ []) k e = in_table Declaration one singles a k singles_of_declaration e
mark_found Predicate (a ∷ []) k e =
    cond_is (λ (o : Option Mark). o ≡ Some k → mark_of Predicate (a ∷ []) ≡ Some k) (eqb a 47) (Some m.ClosingSlash) (entry_of singles a)
    (λ same f. let a_is : a ≡ 47 = eqb-true a 47 same in ap (λ (b : ℕ). mark_of Predicate (b ∷ [])) a_is ∙ slash_of_predicate ∙ f)
    (λ other f. same_but_slash a other ∙ in_table Body one singles a k singles_of_body f) e
mark_found Body (a ∷ []) k e = in_table Body one singles a k singles_of_body e
mark_found Head (a ∷ b ∷ []) k e = absurd cc
mark_found Declaration (a ∷ b ∷ []) k e = two_found Declaration a b k of_declaration e
mark_found Predicate (a ∷ b ∷ []) k e = two_found Predicate a b k of_predicate e
mark_found Body (a ∷ b ∷ []) k e = two_found Body a b k of_body e
mark_found Head (a ∷ b ∷ c ∷ []) k e = absurd cc
mark_found Declaration (a ∷ b ∷ c ∷ []) k e = three_found Declaration a b c k of_declaration e
mark_found Predicate (a ∷ b ∷ c ∷ []) k e = three_found Predicate a b c k of_predicate e
mark_found Body (a ∷ b ∷ c ∷ []) k e = three_found Body a b c k of_body e
mark_found p (a ∷ b ∷ c ∷ d ∷ z) k e = absurd cc

-- ---- each mark is in a table

abbrev AreWalked : Place → List (List ℕ × Mark) → Bool
AreWalked p table = list_all (λ e. is_mark (mark_by p e.0) e.1) table

all_walked : (p : Place) → AreWalked p (marks_in p) ≡ true
unfolding mark_by
all_walked Head = refl
all_walked Declaration = refl
all_walked Predicate = refl
all_walked Body = refl

among : (p : Place) (table : List (List ℕ × Mark)) (own : List ℕ) (k : Mark) → AreWalked p table ≡ true → lookup (bytes_eq own) table ≡ Some k → mark_by p own ≡ Some k
among p [] own k h e = absurd cc
among p (x ∷ table) own k h e =
    let both = both_true (is_mark (mark_by p x.0) x.1) (AreWalked p table) h in
    cond_is (λ (o : Option Mark). o ≡ Some k → mark_by p own ≡ Some k) (bytes_eq own x.0) (Some x.1) (lookup (bytes_eq own) table)
    (λ same f. ap (λ (bytes : List ℕ). mark_by p bytes) ((bytes_eq-Decides own x.0).0 same) ∙ is_mark_true (mark_by p x.0) x.1 both.0 ∙ f)
    (λ _ f. among p table own k both.1 f)
    e

pub mark_walked : (p : Place) (own : List ℕ) (k : Mark) → mark_of p own ≡ Some k → mark_by p own ≡ Some k
unfolding mark_of
mark_walked p own k e = among p (marks_in p) own k (all_walked p) e
