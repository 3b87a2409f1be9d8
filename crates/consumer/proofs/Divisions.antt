-- A bundle is divided, and in one way.
use Rattle.std.proofs.Common.{◌≡◌, ◌≢◌, ℕ, suc, Bool, true, false, ◌||◌, List, [], ◌∷◌, ◌++◌, refl}
use Rattle.std.proofs.Common.{sym, subst, append_assoc, append-nil, arith, ⊎_elim}
use Rattle.std.specs.Prelude.{codes}
use Rattle.std.specs.Bool.{Decides}
use Rattle.std.specs.Str.{bytes_eq}
use Rattle.std.proofs.Math.Dec.{eqb}
use Rattle.std.proofs.lemmas.Bool.Decides.{Decides-or, eqb_tells, not_from_Decides}
use Rattle.std.proofs.lemmas.List.Elements.{All-from_recursion, All-nil, All-push}
use Rattle.std.proofs.lemmas.Slice.Eq.{bytes_eq-Decides}
use Rattle.consumer.specs.Bundle.{Divides, IsDivider, IsLine}

pub line_rest : (b : ℕ) (bytes : List ℕ) → IsLine (b ∷ bytes) → IsLine bytes
line_rest b bytes own = λ k d lt. own (suc k) d (omega arith)

-- a line has no line feed in it
no_feed : (line front rest : List ℕ) → IsLine line → line ≡ front ++ 10 ∷ rest → ⊥
no_feed [] [] rest own e = cc
no_feed [] (f ∷ front) rest own e = cc
no_feed (b ∷ line) [] rest own e = own 0 b (omega arith) (cc)
no_feed (b ∷ line) (f ∷ front) rest own e = no_feed line front rest (line_rest b line own) (cc)

-- the first line feed is in one place
one_cut : (x y a b : List ℕ) → IsLine x → IsLine y → x ++ 10 ∷ a ≡ y ++ 10 ∷ b → (x ≡ y) × (a ≡ b)
one_cut [] [] a b own own' e = (refl, cc)
one_cut [] (c ∷ y) a b own own' e = absurd (own' 0 c (omega arith) (cc))
one_cut (c ∷ x) [] a b own own' e = absurd (own 0 c (omega arith) (cc))
one_cut (c ∷ x) (f ∷ y) a b own own' e =
    let rest = one_cut x y a b (line_rest c x own) (line_rest f y own') (cc) in
    let line = rest.0 in
    (cc, rest.1)

-- the dividing line is one line
divider_is_line : (line : List ℕ) → IsDivider line → IsLine line
divider_is_line line is = ⊎_elim
    (λ (e : line ≡ codes "---"). subst IsLine (sym e) (All-from_recursion (λ b. b ≢ 10) (codes "---") (λ f. omega arith, (λ f. omega arith, (λ f. omega arith, tt)))))
    (λ (e : line ≡ codes "---\r"). subst IsLine (sym e) (All-from_recursion (λ b. b ≢ 10) (codes "---\r") (λ f. omega arith, (λ f. omega arith, (λ f. omega arith, (λ f. omega arith, tt))))))
    is

same_division : (bundle script trace bundle' script' trace' : List ℕ) → Divides bundle script trace → Divides bundle' script' trace' → bundle ≡ bundle' → (script ≡ script') × (trace ≡ trace')
same_division b s t b' s' t' (Divides.before line rest script trace own other more) (Divides.before line' rest' script' trace' own' other' more') e =
    let cut = one_cut line line' rest rest' own own' e in
    let again = same_division rest script trace rest' script' trace' more more' cut.1 in
    let first = cut.0 in
    let scripts = again.0 in
    (cc, again.1)
same_division b s t b' s' t' (Divides.before line rest script trace own other more) (Divides.divider line' trace' is') e =
    absurd (other (subst IsDivider (sym (one_cut line line' rest trace' own (divider_is_line line' is') e).0) is'))
same_division b s t b' s' t' (Divides.before line rest script trace own other more) (Divides.last_divider line' is') e = absurd (no_feed line' line rest (divider_is_line line' is') (sym e))
same_division b s t b' s' t' (Divides.before line rest script trace own other more) (Divides.last_line line' own' other') e = absurd (no_feed line' line rest own' (sym e))
same_division b s t b' s' t' (Divides.divider line trace is) (Divides.before line' rest' script' trace' own' other' more') e =
    absurd (other' (subst IsDivider (one_cut line line' trace rest' (divider_is_line line is) own' e).0 is))
same_division b s t b' s' t' (Divides.divider line trace is) (Divides.divider line' trace' is') e =
    (refl, (one_cut line line' trace trace' (divider_is_line line is) (divider_is_line line' is') e).1)
same_division b s t b' s' t' (Divides.divider line trace is) (Divides.last_divider line' is') e = absurd (no_feed line' line trace (divider_is_line line' is') (sym e))
same_division b s t b' s' t' (Divides.divider line trace is) (Divides.last_line line' own' other') e = absurd (no_feed line' line trace own' (sym e))
same_division b s t b' s' t' (Divides.last_divider line is) (Divides.before line' rest' script' trace' own' other' more') e = absurd (no_feed line line' rest' (divider_is_line line is) e)
same_division b s t b' s' t' (Divides.last_divider line is) (Divides.divider line' trace' is') e = absurd (no_feed line line' trace' (divider_is_line line is) e)
same_division b s t b' s' t' (Divides.last_divider line is) (Divides.last_divider line' is') e = (refl, refl)
same_division b s t b' s' t' (Divides.last_divider line is) (Divides.last_line line' own' other') e = absurd (other' (subst IsDivider e is))
same_division b s t b' s' t' (Divides.last_line line own other) (Divides.before line' rest' script' trace' own' other' more') e = absurd (no_feed line line' rest' own e)
same_division b s t b' s' t' (Divides.last_line line own other) (Divides.divider line' trace' is') e = absurd (no_feed line line' trace' own e)
same_division b s t b' s' t' (Divides.last_line line own other) (Divides.last_divider line' is') e = absurd (other (subst IsDivider (sym e) is'))
same_division b s t b' s' t' (Divides.last_line line own other) (Divides.last_line line' own' other') e = (e, refl)

pub one_division : (bundle script trace script' trace' : List ℕ) → Divides bundle script trace → Divides bundle script' trace' → (script ≡ script') × (trace ≡ trace')
one_division bundle script trace script' trace' d d' = same_division bundle script trace bundle script' trace' d d' refl

-- a test whether a line divides
abbrev is_divider : List ℕ → Bool
is_divider line = bytes_eq line (codes "---") || bytes_eq line (codes "---\r")

is_divider-Decides : (line : List ℕ) → Decides (is_divider line) (IsDivider line)
is_divider-Decides line = Decides-or _ _ (bytes_eq-Decides line (codes "---")) (bytes_eq-Decides line (codes "---\r"))

-- the parts of a bundle
abbrev HasParts : List ℕ → Type 0
HasParts bundle = (script trace : List ℕ) × Divides bundle script trace

last_parts : (r : Bool) (line : List ℕ) → Decides r (IsDivider line) → IsLine line → HasParts line
last_parts true line test own = ([], [], Divides.last_divider line (test.0 refl))
last_parts false line test own = (line, [], Divides.last_line line own (not_from_Decides false test refl))

line_parts : (r : Bool) (line rest : List ℕ) → Decides r (IsDivider line) → IsLine line → HasParts rest → HasParts (line ++ 10 ∷ rest)
line_parts true line rest test own more = ([], rest, Divides.divider line rest (test.0 refl))
line_parts false line rest test own more = (line ++ 10 ∷ more.0, more.1, Divides.before line rest more.0 more.1 own (not_from_Decides false test refl) more.2)

-- a bundle that begins with a part of a line
parts_from : (line rest : List ℕ) → IsLine line → HasParts (line ++ rest)
parts_from line [] own = subst HasParts (sym (append-nil line)) (last_parts (is_divider line) line (is_divider-Decides line) own)
parts_from line (b ∷ rest) own = ⊎_elim
    (λ (is : (eqb b 10 ≡ true) × (b ≡ 10)). subst (λ c. HasParts (line ++ c ∷ rest)) (sym is.1)
    (line_parts (is_divider line) line rest (is_divider-Decides line) own (parts_from [] rest (All-nil _))))
    (λ (is_not : (eqb b 10 ≡ false) × (b ≢ 10)). subst HasParts (append_assoc line (b ∷ []) rest) (parts_from (line ++ b ∷ []) rest (All-push (λ x. x ≢ 10) line b own is_not.1)))
    (eqb_tells b 10)

-- each bundle is divided
pub division : (bundle : List ℕ) → (script trace : List ℕ) × Divides bundle script trace
division bundle = parts_from [] bundle (All-nil _)
