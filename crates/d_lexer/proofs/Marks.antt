-- The longest mark.
use Rattle.std.proofs.Common.{◌≡◌, eqb, ◌&&◌, ◌||◌, ℕ, ◌≤◌, Bool, true, not, cond, List, [], ◌∷◌}
use Rattle.std.proofs.Common.{◌++◌, length, Option, Some, None, refl, sym, ap, ◌∙◌, arith}
use Rattle.std.proofs.lemmas.Bool.{eqb-true}
use Rattle.d_lexer.specs.declared.token.Mark.{Mark}
use Rattle.d_lexer.specs.declared.place.Place.{Place}
use Rattle.d_lexer.specs.declared.place.Place.TheVariants.{Head, Declaration, Predicate, Body}
use Rattle.d_lexer.specs.{Steps.Marks.entry_of, Bytes.is_blank_byte}
use Rattle.d_lexer.specs.Steps.Marks.{mark_by, singles, of_head, doubles, settings, shift_marks, arrows}
use Rattle.d_lexer.specs.{Tokens.IsMark, Faults.begins}
use Rattle.d_lexer.specs.Steps.Scan.{mark_at, with_length}
use Rattle.d_lexer.specs.Marks.{mark_of}
use Rattle.d_lexer.proofs.MarkTables.{mark_found, mark_walked}
use Rattle.d_lexer.proofs.Base.{both_true, Split, cond_is}

-- a byte with which a mark may begin
abbrev pub is_free : Place → ℕ → Bool
is_free p b = not (is_blank_byte b || begins p b || eqb b 35)

abbrev all_free : Place → List (ℕ × Mark) → Bool
all_free p [] = true
all_free p (e ∷ es) = is_free p e.0 && all_free p es

in_free : (p : Place) (table : List (ℕ × Mark)) (b : ℕ) (k : Mark) → all_free p table ≡ true → entry_of table b ≡ Some k → is_free p b ≡ true
in_free p [] b k h e = absurd cc
in_free p (x ∷ table) b k h e =
    let both = both_true (is_free p x.0) (all_free p table) h in
    cond_is (λ (o : Option Mark). o ≡ Some k → is_free p b ≡ true) (eqb b x.0) (Some x.1) (entry_of table b)
    (λ same _. let s : b ≡ x.0 = eqb-true b x.0 same in rw s both.0)
    (λ other found. in_free p table b k both.1 found)
    e

two_free : (p : Place) (a b : ℕ) (k : Mark) → all_free p settings ≡ true → all_free p doubles ≡ true → all_free p arrows ≡ true →
    cond (eqb b 61) (entry_of settings a) (cond (eqb a b) (entry_of doubles a) (cond (eqb b 62) (entry_of arrows a) None)) ≡ Some k → is_free p a ≡ true
two_free p a b k h1 h2 h3 e =
    let P : Option Mark → Type 0 = λ o. o ≡ Some k → is_free p a ≡ true in
    cond_is P (eqb b 61) (entry_of settings a) (cond (eqb a b) (entry_of doubles a) (cond (eqb b 62) (entry_of arrows a) None))
    (λ _ f. in_free p settings a k h1 f)
    (λ _ f. cond_is P (eqb a b) (entry_of doubles a) (cond (eqb b 62) (entry_of arrows a) None)
    (λ _ g. in_free p doubles a k h2 g)
    (λ _ g. cond_is P (eqb b 62) (entry_of arrows a) None (λ _ h. in_free p arrows a k h3 h) (λ _ h. absurd cc) g)
    f)
    e

three_free : (p : Place) (a b c : ℕ) (k : Mark) → all_free p shift_marks ≡ true → cond (eqb c 61 && eqb a b) (entry_of shift_marks a) None ≡ Some k → is_free p a ≡ true
three_free p a b c k h e = cond_is (λ (o : Option Mark). o ≡ Some k → is_free p a ≡ true) (eqb c 61 && eqb a b) (entry_of shift_marks a) None (λ _ f. in_free p shift_marks a k h f) (λ _ f. absurd cc) e

free_by : (p : Place) (a : ℕ) (w : List ℕ) (k : Mark) → mark_by p (a ∷ w) ≡ Some k → is_free p a ≡ true
unfolding mark_by
free_by Head a [] k e = in_free Head of_head a k refl e
free_by Declaration a [] k e = in_free Declaration singles a k refl e
free_by Predicate a [] k e =
    cond_is (λ (o : Option Mark). o ≡ Some k → is_free Predicate a ≡ true) (eqb a 47) _ (entry_of singles a)
    (λ same _. let s : a ≡ 47 = eqb-true a 47 same in rw s refl) (λ _ f. in_free Predicate singles a k refl f) e
free_by Body a [] k e = in_free Body singles a k refl e
free_by Head a (b ∷ []) k e = absurd cc
free_by Declaration a (b ∷ []) k e = two_free Declaration a b k refl refl refl e
free_by Predicate a (b ∷ []) k e = two_free Predicate a b k refl refl refl e
free_by Body a (b ∷ []) k e = two_free Body a b k refl refl refl e
free_by Head a (b ∷ c ∷ []) k e = absurd cc
free_by Declaration a (b ∷ c ∷ []) k e = three_free Declaration a b c k refl e
free_by Predicate a (b ∷ c ∷ []) k e = three_free Predicate a b c k refl e
free_by Body a (b ∷ c ∷ []) k e = three_free Body a b c k refl e
free_by p a (b ∷ c ∷ d ∷ z) k e = absurd cc

pub mark_free : (p : Place) (a : ℕ) (w : List ℕ) (k : Mark) → mark_of p (a ∷ w) ≡ Some k → is_free p a ≡ true
mark_free p a w k e = free_by p a w k (mark_walked p (a ∷ w) k e)

-- ---- the longest one

no_empty : (p : Place) (j : Mark) → mark_by p [] ≡ Some j → ⊥
unfolding mark_by
no_empty p j e = cc

too_long : (p : Place) (x y w v : ℕ) (u : List ℕ) (j : Mark) → mark_by p (x ∷ y ∷ w ∷ v ∷ u) ≡ Some j → ⊥
unfolding mark_by
too_long p x y w v u j e = cc

abbrev No3 : Place → List ℕ → Type 0
No3 p bytes = (x y w : ℕ) (after : List ℕ) → bytes ≡ x ∷ (y ∷ (w ∷ after)) → mark_by p (x ∷ (y ∷ (w ∷ []))) ≡ None

abbrev No2 : Place → List ℕ → Type 0
No2 p bytes = (x y : ℕ) (after : List ℕ) → bytes ≡ x ∷ (y ∷ after) → mark_by p (x ∷ (y ∷ [])) ≡ None

abbrev No1 : Place → List ℕ → Type 0
No1 p bytes = (x : ℕ) (after : List ℕ) → bytes ≡ x ∷ after → mark_by p (x ∷ []) ≡ None

none_some : (o : Option Mark) (j : Mark) → o ≡ Some j → o ≡ None → ⊥
none_some o j e f = cc

at_most_3 : (p : Place) (bytes other after : List ℕ) (j : Mark) → mark_by p other ≡ Some j → bytes ≡ other ++ after → length other ≤ 3
at_most_3 p bytes [] after j e is = omega arith
at_most_3 p bytes (x ∷ []) after j e is = omega arith
at_most_3 p bytes (x ∷ y ∷ []) after j e is = omega arith
at_most_3 p bytes (x ∷ y ∷ w ∷ []) after j e is = omega arith
at_most_3 p bytes (x ∷ y ∷ w ∷ v ∷ u) after j e is = absurd (too_long p x y w v u j e)

at_most_2 : (p : Place) (bytes other after : List ℕ) (j : Mark) → No3 p bytes → mark_by p other ≡ Some j → bytes ≡ other ++ after → length other ≤ 2
at_most_2 p bytes [] after j n3 e is = omega arith
at_most_2 p bytes (x ∷ []) after j n3 e is = omega arith
at_most_2 p bytes (x ∷ y ∷ []) after j n3 e is = omega arith
at_most_2 p bytes (x ∷ y ∷ w ∷ []) after j n3 e is = absurd (none_some (mark_by p (x ∷ y ∷ w ∷ [])) j e (n3 x y w after is))
at_most_2 p bytes (x ∷ y ∷ w ∷ v ∷ u) after j n3 e is = absurd (too_long p x y w v u j e)

at_most_1 : (p : Place) (bytes other after : List ℕ) (j : Mark) → No3 p bytes → No2 p bytes → mark_by p other ≡ Some j → bytes ≡ other ++ after → length other ≤ 1
at_most_1 p bytes [] after j n3 n2 e is = omega arith
at_most_1 p bytes (x ∷ []) after j n3 n2 e is = omega arith
at_most_1 p bytes (x ∷ y ∷ []) after j n3 n2 e is = absurd (none_some (mark_by p (x ∷ y ∷ [])) j e (n2 x y after is))
at_most_1 p bytes (x ∷ y ∷ w ∷ []) after j n3 n2 e is = absurd (none_some (mark_by p (x ∷ y ∷ w ∷ [])) j e (n3 x y w after is))
at_most_1 p bytes (x ∷ y ∷ w ∷ v ∷ u) after j n3 n2 e is = absurd (too_long p x y w v u j e)

at_most_0 : (p : Place) (bytes other after : List ℕ) (j : Mark) → No3 p bytes → No2 p bytes → No1 p bytes → mark_by p other ≡ Some j → bytes ≡ other ++ after → ⊥
at_most_0 p bytes [] after j n3 n2 n1 e is = no_empty p j e
at_most_0 p bytes (x ∷ []) after j n3 n2 n1 e is = none_some (mark_by p (x ∷ [])) j e (n1 x after is)
at_most_0 p bytes (x ∷ y ∷ []) after j n3 n2 n1 e is = none_some (mark_by p (x ∷ y ∷ [])) j e (n2 x y after is)
at_most_0 p bytes (x ∷ y ∷ w ∷ []) after j n3 n2 n1 e is = none_some (mark_by p (x ∷ y ∷ w ∷ [])) j e (n3 x y w after is)
at_most_0 p bytes (x ∷ y ∷ w ∷ v ∷ u) after j n3 n2 n1 e is = too_long p x y w v u j e

abbrev Longest : Place → (own rest : List ℕ) → Type 0
Longest p own rest = (other after : List ℕ) (j : Mark) → mark_of p other ≡ Some j → own ++ rest ≡ other ++ after → length other ≤ length own

abbrev pub MarkIs : Place → ℕ → List ℕ → Option (Mark × ℕ) → Type 0
MarkIs p a z None = (own rest : List ℕ) (k : Mark) → mark_of p own ≡ Some k → (a ∷ z) ≡ own ++ rest → ⊥
MarkIs p a z (Some x) = Split (λ own rest. (mark_of p (a ∷ own) ≡ Some (x.0)) × Longest p (a ∷ own) rest) x.1 z

with_length_is : (P : Option (Mark × ℕ) → Type 0) (n : ℕ) (o : Option Mark) (other : Option (Mark × ℕ)) → ((k : Mark) → o ≡ Some k → P (Some (k, n))) → (o ≡ None → P other) → P (with_length n o other)
with_length_is P n None other f g = g refl
with_length_is P n (Some k) other f g = f k refl

pub mark_sound : (p : Place) (a : ℕ) (z : List ℕ) → MarkIs p a z (mark_at p a z)
unfolding mark_at
mark_sound p a [] =
    with_length_is (MarkIs p a []) 0 (mark_by p (a ∷ [])) None
    (λ k e. record { own = []; rest = []; is = refl; size = refl; holds = (mark_found p _ k e, λ other after j f is. at_most_1 p (a ∷ []) other after j (λ x y w q r. absurd cc) (λ x y q r. absurd cc) (mark_walked p other j f) is) })
    (λ e other after j f is. at_most_0 p (a ∷ []) other after j (λ x y w q r. absurd cc) (λ x y q r. absurd cc) (λ x q r. cc) (mark_walked p other j f) is)
mark_sound p a (b ∷ []) =
    with_length_is (MarkIs p a (b ∷ [])) 1 (mark_by p (a ∷ b ∷ [])) (with_length 0 (mark_by p (a ∷ [])) None)
    (λ k e. record { own = b ∷ []; rest = []; is = refl; size = refl; holds = (mark_found p _ k e, λ other after j f is. at_most_2 p (a ∷ b ∷ []) other after j (λ x y w q r. absurd cc) (mark_walked p other j f) is) })
    (λ e2. with_length_is (MarkIs p a (b ∷ [])) 0 (mark_by p (a ∷ [])) None
    (λ k e. record { own = []; rest = b ∷ []; is = refl; size = refl; holds = (mark_found p _ k e, λ other after j f is. at_most_1 p (a ∷ b ∷ []) other after j (λ x y w q r. absurd cc) (λ x y q r. cc) (mark_walked p other j f) is) })
    (λ e other after j f is. at_most_0 p (a ∷ b ∷ []) other after j (λ x y w q r. absurd cc) (λ x y q r. cc) (λ x q r. cc) (mark_walked p other j f) is))
mark_sound p a (b ∷ c ∷ z) =
    with_length_is (MarkIs p a (b ∷ c ∷ z)) 2 (mark_by p (a ∷ b ∷ c ∷ [])) (with_length 1 (mark_by p (a ∷ b ∷ [])) (with_length 0 (mark_by p (a ∷ [])) None))
    (λ k e. record { own = b ∷ c ∷ []; rest = z; is = refl; size = refl; holds = (mark_found p _ k e, λ other after j f is. at_most_3 p (a ∷ b ∷ c ∷ z) other after j (mark_walked p other j f) is) })
    (λ e3. with_length_is (MarkIs p a (b ∷ c ∷ z)) 1 (mark_by p (a ∷ b ∷ [])) (with_length 0 (mark_by p (a ∷ [])) None)
    (λ k e. record { own = b ∷ []; rest = c ∷ z; is = refl; size = refl; holds = (mark_found p _ k e, λ other after j f is. at_most_2 p (a ∷ b ∷ c ∷ z) other after j (λ x y w q r. cc) (mark_walked p other j f) is) })
    (λ e2. with_length_is (MarkIs p a (b ∷ c ∷ z)) 0 (mark_by p (a ∷ [])) None
    (λ k e. record { own = []; rest = b ∷ c ∷ z; is = refl; size = refl; holds = (mark_found p _ k e, λ other after j f is. at_most_1 p (a ∷ b ∷ c ∷ z) other after j (λ x y w q r. cc) (λ x y q r. cc) (mark_walked p other j f) is) })
    (λ e other after j f is. at_most_0 p (a ∷ b ∷ c ∷ z) other after j (λ x y w q r. cc) (λ x y q r. cc) (λ x q r. cc) (mark_walked p other j f) is)))

-- The longest one is unique: so the one that is found is it.
pub mark_complete : (p : Place) (a : ℕ) (own rest : List ℕ) (k : Mark) → IsMark p (a ∷ own) rest k → mark_at p a (own ++ rest) ≡ Some (k, length own)
mark_complete p a own rest k h = found (mark_at p a (own ++ rest)) (mark_sound p a (own ++ rest)) where
  same_cut : (x y u v : List ℕ) → x ++ u ≡ y ++ v → length x ≡ length y → x ≡ y
  same_cut [] [] u v e n = refl
  same_cut [] (c ∷ y) u v e n = absurd (omega arith)
  same_cut (c ∷ x) [] u v e n = absurd (omega arith)
  same_cut (c ∷ x) (d ∷ y) u v e n = let t : x ++ u ≡ y ++ v = cc in let s : x ≡ y = same_cut x y u v t (omega arith) in cc

  found : (o : Option (Mark × ℕ)) → MarkIs p a (own ++ rest) o → o ≡ Some (k, length own)
  found None none = absurd (none (a ∷ own) rest k h.is refl)
  found (Some x) s =
      let le1 = h.longest (a ∷ s.own) s.rest x.0 s.holds.0 (ap (λ (xs : List ℕ). a ∷ xs) s.is) in
      let le2 = s.holds.1 (a ∷ own) rest k h.is (ap (λ (xs : List ℕ). a ∷ xs) (sym s.is)) in
      let n : length s.own ≡ length own = omega arith in
      let same : s.own ≡ own = same_cut s.own own s.rest rest (sym s.is) n in
      let k_is : Some (x.0) ≡ Some k = sym s.holds.0 ∙ ap (λ (xs : List ℕ). mark_of p (a ∷ xs)) same ∙ h.is in
      let m_is : x.0 ≡ k = cc in
      let n_is : x.1 ≡ length own = s.size ∙ n in
      rw (← m_is, ← n_is) refl
