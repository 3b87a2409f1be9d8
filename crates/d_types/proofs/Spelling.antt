-- What is read as pieces is spelled by them.
use Rattle.std.proofs.Common.{◌≡◌, ◌≢◌, ℕ, zero, suc, ◌+◌, ◌*◌, ◌-◌, ◌≤◌, ◌<◌, ◌==◌, ◌||◌}
use Rattle.std.proofs.Common.{◌⊎◌, inl, inr, nat_le, List, [], ◌∷◌, ◌++◌, Bool, true, false}
use Rattle.std.proofs.Common.{if◌then◌else◌, Option, Some, None, decimal, refl, sym, ap, ◌∙◌, subst}
use Rattle.std.proofs.Common.{append_assoc, append-nil, arith, eqb-true, eq-eqb}
use Rattle.std.proofs.Math.Bool.{or-true, or-false}
use Rattle.std.proofs.lemmas.Bool.{true≢false, leb-true}
use Rattle.std.proofs.lemmas.Fmt.{decimal-digits_value}
use Rattle.std.specs.Int.{IsInRange}
use Rattle.d_types.specs.declared.typed.Letter.{Letter}
use Rattle.d_types.specs.declared.typed.Letter.TheVariants as letter
use Rattle.d_types.specs.declared.typed.Piece.{Piece}
use Rattle.d_types.specs.declared.typed.Piece.TheVariants as piece
use Rattle.d_types.specs.declared.format.Flags.{Flags}
use Rattle.d_types.specs.declared.format.Place.{Place}
use Rattle.d_types.specs.declared.format.Place.TheVariants as at
use Rattle.d_types.specs.Steps.Formats.{goes, ends, letter_of, with_letter, at_letter, at_length}
use Rattle.d_parser.specs.Script.{is_ascii_digit}
use Rattle.d_types.specs.Steps.Formats.{at_width, at_flags, no_flags, turn, with_piece}
use Rattle.d_types.specs.Steps.Formats.{is_outside, pieces_at_end, option_then, pieces_from, pieces}
use Rattle.std.specs.Char.{char_set_contains}
use Rattle.d_types.specs.Spelling.{width_text, lengths, letters}
use Rattle.d_types.specs.Spelling.{SpellsPiece}
use Rattle.d_types.specs.Spelling.{SpellsFormat}
use Rattle.d_types.proofs.Bounds.{both_true}
use Rattle.d_types.proofs.Spelled.{IsOneOf, has, AreFlags, flags_are, AllDecimal, value_after, numerals, not_less, argument}
use Rattle.d_types.proofs.Spelled.{with_width, SpellInTurn, spell_format}

-- ---- tests

either : {A : Type 0} (t : Bool) (x y z : A) → (if t then x else y) ≡ z → ((t ≡ true) × (x ≡ z)) ⊎ ((t ≡ false) × (y ≡ z))
either true x y z h = inl (refl, h)
either false x y z h = inr (refl, h)

digit_is : (d : ℕ) → is_ascii_digit d ≡ true → IsInRange 48 57 d
digit_is d h = let two = both_true (nat_le 48 d) (nat_le d 57) h in (leb-true 48 d two.0, leb-true d 57 two.1)

-- ---- what may follow at an index

-- a length and a letter
abbrev Closes : Flags → Piece → List ℕ → Type 0
Closes f p text =
    (size : List ℕ) × (l : ℕ) × (k : Letter) × IsOneOf size lengths × IsOneOf l (letters k) × (p ≡ argument f k) × (text ≡ size ++ l ∷ [])

-- the width's further digits before them
abbrev WithDigits : Flags → Piece → List ℕ → Type 0
WithDigits f p text =
    (ds : List ℕ) × (tail : List ℕ) × AllDecimal ds × (value_after f.width ds ≤ 255) × Closes (with_width f (value_after f.width ds)) p tail × (text ≡ ds ++ tail)

-- further flags, and the width
abbrev WithFlags : Flags → Piece → List ℕ → Type 0
WithFlags f p text =
    (flags : List ℕ) × (w : ℕ) × (tail : List ℕ) × AreFlags flags × (w ≤ 255)
    × Closes (record { left = char_set_contains flags 45 || f.left; zeros = char_set_contains flags 48 || f.zeros; width = w }) p tail × (text ≡ flags ++ (width_text w ++ tail))

-- the text that ends the piece
abbrev Ends : Place → Piece → List ℕ → Type 0
Ends at.Outside p text = SpellsPiece p text
Ends at.Opened p text = ((p ≡ piece.Byte 37) × (text ≡ 37 ∷ [])) ⊎ WithFlags no_flags p text
Ends (at.Flagged f) p text = WithFlags f p text
Ends (at.Width f) p text = WithDigits f p text
Ends (at.Half f) p text = Closes f p (104 ∷ text)
Ends (at.Long f) p text = Closes f p (108 ∷ text)
Ends (at.Sized f) p text = (l : ℕ) × (k : Letter) × IsOneOf l (letters k) × (p ≡ argument f k) × (text ≡ l ∷ [])

-- after flags there is no width yet, and after a width's digits one that fits
abbrev Fine : Place → Type 0
Fine (at.Flagged f) = f.width ≡ 0
Fine (at.Width f) = f.width ≤ 255
Fine index = Unit {0}

-- a byte goes on with a piece, or ends it
abbrev Steps : (Piece → List ℕ → Type 0) → ℕ → Place → Option Piece → Type 0
Steps E b q o =
    ((o ≡ None) × (is_outside q ≡ false) × Fine q × ((p : Piece) (text : List ℕ) → Ends q p text → E p (b ∷ text)))
    ⊎ ((p : Piece) × (o ≡ Some p) × (q ≡ at.Outside) × E p (b ∷ []))

steps_as : (E F : Piece → List ℕ → Type 0) (b : ℕ) (q : Place) (o : Option Piece) → ((p : Piece) (text : List ℕ) → E p (b ∷ text) → F p (b ∷ text)) →
    Steps E b q o → Steps F b q o
steps_as E F b q o go (inl h) = inl (h.0, h.1, h.2, λ p text e. go p text (h.3 p text e))
steps_as E F b q o go (inr h) = inr (h.0, h.1, h.2, go h.0 [] h.3)

goes_step : (E : Piece → List ℕ → Type 0) (b : ℕ) (to q : Place) (o : Option Piece) → is_outside to ≡ false → Fine to →
    ((p : Piece) (text : List ℕ) → Ends to p text → E p (b ∷ text)) → goes to ≡ Some (q, o) → Steps E b q o
goes_step E b to q o inside fine go h =
    let same : (to, None) ≡ (q, o) = cc in
    subst (λ (t : Place × Option Piece). Steps E b t.0 t.1) same (inl (refl, inside, fine, go))

ends_step : (E : Piece → List ℕ → Type 0) (b : ℕ) (p : Piece) (q : Place) (o : Option Piece) → E p (b ∷ []) → ends p ≡ Some (q, o) → Steps E b q o
ends_step E b p q o e h =
    let same : (at.Outside, Some p) ≡ (q, o) = cc in
    subst (λ (t : Place × Option Piece). Steps E b t.0 t.1) same (inr (p, refl, refl, e))

-- ---- letters and lengths

one_or_other : (a c : Bool) → (a || c) ≡ true → (a ≡ true) ⊎ (c ≡ true)
one_or_other true c h = inl refl
one_or_other false c h = inr h

is_d_or_i : (b : ℕ) → (b == 100 || b == 105) ≡ true → IsOneOf b (100 ∷ 105 ∷ [])
is_d_or_i b h = elim (one_or_other (b == 100) (b == 105) h) [ inl e ↦ inl (eqb-true b 100 e) | inr e ↦ inr (inl (eqb-true b 105 e)) ]

letter_is : (b : ℕ) (k : Letter) → letter_of b ≡ Some k → IsOneOf b (letters k)
letter_is b k h =
    elim (either (b == 100 || b == 105) _ _ _ h) [
      | inl e ↦ let same : letter.Signed ≡ k = cc in subst (λ m. IsOneOf b (letters m)) same (is_d_or_i b e.0)
      | inr n ↦ elim (either (b == 117) _ _ _ n.1) [
        | inl e ↦ let same : letter.Unsigned ≡ k = cc in subst (λ m. IsOneOf b (letters m)) same (inl (eqb-true b 117 e.0))
        | inr n ↦ elim (either (b == 120) _ _ _ n.1) [
          | inl e ↦ let same : letter.Hexadecimal ≡ k = cc in subst (λ m. IsOneOf b (letters m)) same (inl (eqb-true b 120 e.0))
          | inr n ↦ elim (either (b == 111) _ _ _ n.1) [
            | inl e ↦ let same : letter.Octal ≡ k = cc in subst (λ m. IsOneOf b (letters m)) same (inl (eqb-true b 111 e.0))
            | inr n ↦ elim (either (b == 115) _ _ _ n.1) [
              | inl e ↦ let same : letter.Text ≡ k = cc in subst (λ m. IsOneOf b (letters m)) same (inl (eqb-true b 115 e.0))
              | inr n ↦ let never = n.1 in cc
            ]
          ]
        ]
      ]
    ]

letter_step : (E : Piece → List ℕ → Type 0) (f : Flags) (b : ℕ) (o' : Option Letter) (q : Place) (o : Option Piece) →
    ((k : Letter) → o' ≡ Some k → E (argument f k) (b ∷ [])) → with_letter f o' ≡ Some (q, o) → Steps E b q o
letter_step E f b None q o go h = cc
letter_step E f b (Some k) q o go h = ends_step E b (argument f k) q o (go k refl) h

-- after the length
end_step : (E : Piece → List ℕ → Type 0) (f : Flags) (b : ℕ) (q : Place) (o : Option Piece) →
    ((k : Letter) → IsOneOf b (letters k) → E (argument f k) (b ∷ [])) → at_letter f b ≡ Some (q, o) → Steps E b q o
end_step E f b q o go h = letter_step E f b (letter_of b) q o (λ k e. go k (letter_is b k e)) h

sized_step : (f : Flags) (b : ℕ) (q : Place) (o : Option Piece) → at_letter f b ≡ Some (q, o) → Steps (Ends (at.Sized f)) b q o
sized_step f b q o h = end_step (Ends (at.Sized f)) f b q o (λ k is. (b, k, is, refl, refl)) h

half_step : (f : Flags) (b : ℕ) (q : Place) (o : Option Piece) → turn (at.Half f) b ≡ Some (q, o) → Steps (Ends (at.Half f)) b q o
half_step f b q o h =
    elim (either (b == 104) _ _ _ h) [
      | inl e ↦ goes_step (Ends (at.Half f)) b (at.Sized f) q o refl tt
          (λ p text w. (104 ∷ 104 ∷ [], w.0, w.1, inr (inr (inl refl)), w.2, w.3, rw (eqb-true b 104 e.0, w.4) refl)) e.1
      | inr n ↦ end_step (Ends (at.Half f)) f b q o (λ k is. (104 ∷ [], b, k, inr (inl refl), is, refl, refl)) n.1
    ]

long_step : (f : Flags) (b : ℕ) (q : Place) (o : Option Piece) → turn (at.Long f) b ≡ Some (q, o) → Steps (Ends (at.Long f)) b q o
long_step f b q o h =
    elim (either (b == 108) _ _ _ h) [
      | inl e ↦ goes_step (Ends (at.Long f)) b (at.Sized f) q o refl tt
          (λ p text w. (108 ∷ 108 ∷ [], w.0, w.1, inr (inr (inr (inr (inl refl)))), w.2, w.3, rw (eqb-true b 108 e.0, w.4) refl)) e.1
      | inr n ↦ end_step (Ends (at.Long f)) f b q o (λ k is. (108 ∷ [], b, k, inr (inr (inr (inl refl))), is, refl, refl)) n.1
    ]

length_step : (f : Flags) (b : ℕ) (q : Place) (o : Option Piece) → at_length f b ≡ Some (q, o) → Steps (Closes f) b q o
length_step f b q o h =
    elim (either (b == 104) _ _ _ h) [
      | inl e ↦ goes_step (Closes f) b (at.Half f) q o refl tt (λ p text w. subst (λ c. Closes f p (c ∷ text)) (sym (eqb-true b 104 e.0)) w) e.1
      | inr n ↦ elim (either (b == 108) _ _ _ n.1) [
        | inl e ↦ goes_step (Closes f) b (at.Long f) q o refl tt (λ p text w. subst (λ c. Closes f p (c ∷ text)) (sym (eqb-true b 108 e.0)) w) e.1
        | inr n ↦ end_step (Closes f) f b q o (λ k is. ([], b, k, inl refl, is, refl, refl)) n.1
      ]
    ]

-- ---- widths

width_step : (f : Flags) (b : ℕ) (q : Place) (o : Option Piece) → f.width ≤ 255 → at_width f b ≡ Some (q, o) → Steps (WithDigits f) b q o
width_step f b q o small h =
    elim (either (is_ascii_digit b) _ _ _ h) [
      | inl e ↦ elim (either (nat_le (f.width * 10 + (b - 48)) 255) _ _ _ e.1) [
        | inl fits ↦ goes_step (WithDigits f) b (at.Width (with_width f (f.width * 10 + (b - 48)))) q o refl (leb-true _ 255 fits.0)
            (λ p text w. (b ∷ w.0, w.1, (digit_is b e.0, w.2), w.3, w.4, ap (λ rest. b ∷ rest) w.5)) fits.1
        | inr n ↦ let never = n.1 in cc
      ]
      | inr n ↦ steps_as (Closes f) (WithDigits f) b q o (λ p text w. ([], b ∷ text, tt, small, w, refl)) (length_step f b q o n.1)
    ]

some_width : (n : ℕ) → 0 < n → width_text n ≡ decimal n
some_width zero some = absurd (omega (arith, some))
some_width (suc n) some = refl

-- a number whose first digit isn't 0 is written so
width_is : (d : ℕ) (ds : List ℕ) → AllDecimal (d ∷ ds) → d ≢ 48 → value_after 0 (d ∷ ds) ≤ 255 → width_text (value_after 0 (d ∷ ds)) ≡ d ∷ ds
width_is d ds all first small =
    let least = not_less (0 * 10 + (d - 48)) ds in
    let some : 0 < value_after 0 (d ∷ ds) = omega (arith, least, all.0.0, first) in
    some_width _ some ∙ decimal-digits_value numerals (d ∷ ds) all (omega arith) (λ zero_first. absurd (first zero_first)) (omega (arith, small))

-- ---- flags

no_more_flags : (f : Flags) (b : ℕ) (p : Piece) (text ds tail : List ℕ) → f.width ≡ 0 → b ≢ 48 → AllDecimal ds → value_after f.width ds ≤ 255 →
    Closes (with_width f (value_after f.width ds)) p tail → b ∷ text ≡ ds ++ tail → WithFlags f p (b ∷ text)
no_more_flags f b p text [] tail none first all small end is = ([], f.width, tail, tt, small, end, is ∙ ap (λ n. width_text n ++ tail) (sym none))
no_more_flags f b p text (d ∷ ds) tail none first all small end is =
    let same : b ≡ d = cc in
    let value : value_after f.width (d ∷ ds) ≡ value_after 0 (d ∷ ds) = ap (λ n. value_after n (d ∷ ds)) none in
    let written = width_is d ds all (λ e. first (same ∙ e)) (omega (arith, value, small)) in
    ([], value_after f.width (d ∷ ds), tail, tt, small, end, is ∙ ap (λ front. front ++ tail) (sym (ap width_text value ∙ written)))

flags_step : (f : Flags) (b : ℕ) (q : Place) (o : Option Piece) → f.width ≡ 0 → at_flags f b ≡ Some (q, o) → Steps (WithFlags f) b q o
flags_step f b q o none h =
    elim (either (b == 45) _ _ _ h) [
      | inl e ↦ goes_step (WithFlags f) b (at.Flagged (record { left = true; zeros = f.zeros; width = f.width })) q o refl none
          (λ p text w. rw (eqb-true b 45 e.0) (
            45 ∷ w.0,
            w.1,
            w.2,
            (inl refl, w.3),
            w.4,
            subst (λ left. Closes (record { left = left; zeros = char_set_contains w.0 48 || f.zeros; width = w.1 }) p w.2) (or-true (char_set_contains w.0 45)) w.5,
            ap (λ rest. 45 ∷ rest) w.6,
          )) e.1
      | inr n ↦ elim (either (b == 48) _ _ _ n.1) [
        | inl e ↦ goes_step (WithFlags f) b (at.Flagged (record { left = f.left; zeros = true; width = f.width })) q o refl none
            (λ p text w. rw (eqb-true b 48 e.0) (
              48 ∷ w.0,
              w.1,
              w.2,
              (inr (inl refl), w.3),
              w.4,
              subst (λ zeros. Closes (record { left = char_set_contains w.0 45 || f.left; zeros = zeros; width = w.1 }) p w.2) (or-true (char_set_contains w.0 48)) w.5,
              ap (λ rest. 48 ∷ rest) w.6,
            )) e.1
        | inr m ↦ steps_as (WithDigits f) (WithFlags f) b q o
            (λ p text w. no_more_flags f b p text w.0 w.1 none (λ e. true≢false (sym (eq-eqb b 48 e) ∙ m.0)) w.2 w.3 w.4 w.5)
            (width_step f b q o (omega (arith, none)) m.1)
      ]
    ]

-- ---- formats

opened_step : (b : ℕ) (q : Place) (o : Option Piece) → turn at.Opened b ≡ Some (q, o) → Steps (Ends at.Opened) b q o
opened_step b q o h =
    elim (either (b == 37) _ _ _ h) [
      | inl e ↦ ends_step (Ends at.Opened) b (piece.Byte 37) q o (inl (refl, ap (λ c. c ∷ []) (eqb-true b 37 e.0))) e.1
      | inr n ↦ steps_as (WithFlags no_flags) (Ends at.Opened) b q o (λ p text w. inr w) (flags_step no_flags b q o refl n.1)
    ]

-- what follows a percent sign makes a piece with it
percent_piece : (p : Piece) (text : List ℕ) → Ends at.Opened p text → SpellsPiece p (37 ∷ text)
percent_piece p text (inl h) = rw (h.0, h.1) refl
percent_piece p text (inr h) =
    rw h.5.5 (
      h.0,
      h.5.0,
      h.5.1,
      flags_are h.0 h.3,
      or-false (char_set_contains h.0 45),
      or-false (char_set_contains h.0 48),
      h.4,
      has lengths h.5.0 h.5.3,
      has (letters h.5.2) h.5.1 h.5.4,
      ap (λ rest. 37 ∷ rest) (h.6 ∙ ap (λ tail. h.0 ++ (width_text h.1 ++ tail)) h.5.6),
    )

outside_step : (b : ℕ) (q : Place) (o : Option Piece) → turn at.Outside b ≡ Some (q, o) → Steps (Ends at.Outside) b q o
outside_step b q o h =
    elim (either (b == 37) _ _ _ h) [
      | inl e ↦ goes_step (Ends at.Outside) b at.Opened q o refl tt (λ p text w. subst (λ c. SpellsPiece p (c ∷ text)) (sym (eqb-true b 37 e.0)) (percent_piece p text w)) e.1
      | inr n ↦ ends_step (Ends at.Outside) b (piece.Byte b) q o (rw n.0 refl) n.1
    ]

step : (index : Place) (b : ℕ) (q : Place) (o : Option Piece) → Fine index → turn index b ≡ Some (q, o) → Steps (Ends index) b q o
step at.Outside b q o fine h = outside_step b q o h
step at.Opened b q o fine h = opened_step b q o h
step (at.Flagged f) b q o fine h = flags_step f b q o fine h
step (at.Width f) b q o fine h = width_step f b q o fine h
step (at.Half f) b q o fine h = half_step f b q o h
step (at.Long f) b q o fine h = long_step f b q o h
step (at.Sized f) b q o fine h = sized_step f b q o h

-- the rest of a format from an index: nothing outside of conversions, or a piece that ends and those after it
abbrev From : Place → List Piece → List ℕ → Type 0
From index ps rest =
    ((index ≡ at.Outside) × (ps ≡ []) × (rest ≡ []))
    ⊎ ((p : Piece) × (others : List Piece) × (text : List ℕ) × (later : List ℕ)
    × (ps ≡ p ∷ others) × (rest ≡ text ++ later) × Ends index p text × SpellInTurn others later)

from_outside : (ps : List Piece) (rest : List ℕ) → From at.Outside ps rest → SpellInTurn ps rest
from_outside ps rest (inl h) = rw h.1 h.2
from_outside ps rest (inr h) = rw h.4 (h.2, h.3, h.6, h.7, h.5)

-- the pieces after those that are done
abbrev Later : List Piece → Place → List Piece → List ℕ → Type 0
Later done index ps rest = (others : List Piece) × (ps ≡ done ++ others) × From index others rest

at_end : (done : List Piece) (index : Place) (ps : List Piece) → pieces_at_end index done ≡ Some ps → Later done index ps []
at_end done at.Outside ps h = let same : done ≡ ps = cc in ([], sym same ∙ sym (append-nil done), inl (refl, refl, refl))
at_end done at.Opened ps h = cc
at_end done (at.Flagged f) ps h = cc
at_end done (at.Width f) ps h = cc
at_end done (at.Half f) ps h = cc
at_end done (at.Long f) ps h = cc
at_end done (at.Sized f) ps h = cc

is_provided : {A B : Type 0} (o : Option A) (go : A → Option B) (y : B) → option_then o go ≡ Some y → (x : A) × (o ≡ Some x) × (go x ≡ Some y)
is_provided None go y h = cc
is_provided (Some x) go y h = (x, refl, h)

-- a byte before what is spelled from the next index
further : (done : List Piece) (index : Place) (b : ℕ) (bs : List ℕ) (ps : List Piece) (q : Place) (o : Option Piece) → Steps (Ends index) b q o →
    Later (with_piece done o) q ps bs → Later done index ps (b ∷ bs)
further done index b bs ps q o (inl s) (others, are, inl r) = absurd (true≢false (ap is_outside (sym r.0) ∙ s.1))
further done index b bs ps q o (inl s) (others, are, inr r) = (
  others,
  are ∙ ap (λ e. with_piece done e ++ others) s.0,
  inr (r.0, r.1, b ∷ r.2, r.3, r.4, ap (λ rest. b ∷ rest) r.5, s.3 r.0 r.2 r.6, r.7),
)
further done index b bs ps q o (inr s) (others, are, from) = (
  s.0 ∷ others,
  are ∙ ap (λ e. with_piece done e ++ others) s.1 ∙ append_assoc done (s.0 ∷ []) others,
  inr (s.0, others, b ∷ [], bs, refl, refl, s.3, from_outside others bs (subst (λ at. From at others bs) s.2 from)),
)

fine_after : (index : Place) (b : ℕ) (q : Place) (o : Option Piece) → Steps (Ends index) b q o → Fine q
fine_after index b q o (inl s) = s.2
fine_after index b q o (inr s) = subst Fine (sym s.2) tt

later : (done : List Piece) (index : Place) (rest : List ℕ) (ps : List Piece) → Fine index → pieces_from done index rest ≡ Some ps → Later done index ps rest
later done index [] ps fine h = at_end done index ps h
later done index (b ∷ bs) ps fine h =
    let t = is_provided (turn index b) _ ps h in
    let s = step index b t.0.0 t.0.1 fine t.1 in
    further done index b bs ps t.0.0 t.0.1 s (later (with_piece done t.0.1) t.0.0 bs ps (fine_after index b t.0.0 t.0.1 s) t.2)

pub read_is_spelled : (format : List ℕ) (ps : List Piece) → pieces format ≡ Some ps → SpellsFormat ps format
read_is_spelled format ps h = let r = later [] at.Outside format ps tt h in rw r.1 (spell_format r.0 format (from_outside r.0 format r.2))
