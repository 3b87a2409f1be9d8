-- Pieces of a format are read as they are spelled.
use Rattle.std.proofs.Common.{◌≡◌, ℕ, zero, suc, ◌+◌, ◌*◌, ◌-◌, ◌^◌, ◌≤◌, ◌<◌, ◌==◌, ◌||◌, inl, inr}
use Rattle.std.proofs.Common.{List, [], ◌∷◌, ◌++◌, get_or, length, slice_index_or, ◌⊎◌, Bool, true, false, if◌then◌else◌, Option}
use Rattle.std.proofs.Common.{Some, decimal, refl, sym, ap, ◌∙◌, subst, append_assoc, append-nil}
use Rattle.std.proofs.Common.{arith, eqb-true, ne_eqb, le-leb}
use Rattle.std.proofs.Math.Bool.{or-true, or-false}
use Rattle.std.proofs.lemmas.Fmt.{first_decimal, digits_decimal, digits_value-decimal}
use Rattle.std.proofs.lemmas.Str.Parse.{IsDigitsTest, FoldsDigits, IsNumeralModel, numerals_by_fold}
use Rattle.std.specs.Int.{IsInRange}
use Rattle.d_types.specs.declared.typed.Letter.{Letter}
use Rattle.d_types.specs.declared.typed.Letter.TheVariants as letter
use Rattle.d_types.specs.declared.typed.Conversion.{Conversion}
use Rattle.d_types.specs.declared.typed.Piece.{Piece}
use Rattle.d_types.specs.declared.typed.Piece.TheVariants as piece
use Rattle.d_types.specs.declared.format.Flags.{Flags}
use Rattle.d_types.specs.declared.format.Place.{Place}
use Rattle.d_types.specs.declared.format.Place.TheVariants as at
use Rattle.d_parser.specs.Script.{is_ascii_digit}
use Rattle.d_types.specs.Steps.Formats.{no_flags, pieces_from, pieces}
use Rattle.std.specs.{Prelude.codes, Char.char_set_contains}
use Rattle.std.specs.List.{AllByRecursion, AllZip, Contains, concat}
use Rattle.d_types.specs.Spelling.{width_text, lengths, letters}
use Rattle.d_types.specs.Spelling.{IsConversion, SpellsPiece, SpellsFormat}

-- ---- what a list has

abbrev pub IsOneOf : {A : Type 0} → A → List A → Type 0
IsOneOf x [] = ⊥
IsOneOf x (y ∷ others) = (x ≡ y) ⊎ IsOneOf x others

pub one_of : {A : Type 0} (xs : List A) (x : A) → Contains xs x → IsOneOf x xs
one_of {A = A} xs x h = found xs h.0 h.1 h.2
  where
    found : (ys : List A) (k : ℕ) → k < length ys → slice_index_or ys k x ≡ x → IsOneOf x ys
    found [] k small e = absurd (omega (arith, small))
    found (y ∷ ys) zero small e = inl (sym e)
    found (y ∷ ys) (suc k) small e = inr (found ys k (omega (arith, small)) e)

pub has : {A : Type 0} (xs : List A) (x : A) → IsOneOf x xs → Contains xs x
has [] x none = absurd none
has (y ∷ ys) x (inl e) = (0, omega arith, sym e)
has (y ∷ ys) x (inr h) = let later = has ys x h in (suc later.0, omega (arith, later.1), later.2)

abbrev pub AreFlags : List ℕ → Type 0
AreFlags flags = AllByRecursion (λ f. IsOneOf f (codes "-0")) flags

pub are_flags : (flags : List ℕ) → AllByRecursion (Contains (codes "-0")) flags → AreFlags flags
are_flags [] h = tt
are_flags (f ∷ flags) h = (one_of (codes "-0") f h.0, are_flags flags h.1)

pub flags_are : (flags : List ℕ) → AreFlags flags → AllByRecursion (Contains (codes "-0")) flags
flags_are [] h = tt
flags_are (f ∷ flags) h = (has (codes "-0") f h.0, flags_are flags h.1)

-- ---- the digits of a width

abbrev pub AllDecimal : List ℕ → Type 0
AllDecimal [] = Unit {0}
AllDecimal (d ∷ ds) = IsInRange 48 57 d × AllDecimal ds

-- the number that they write after those of n
abbrev pub value_after : ℕ → List ℕ → ℕ
value_after n [] = n
value_after n (d ∷ ds) = value_after (n * 10 + (d - 48)) ds

tells : IsDigitsTest AllDecimal
tells = record { empty = tt; parts = λ c cs p. p; more = λ c cs k p. (k, p) }

folds : FoldsDigits value_after
folds = record { empty = λ n. refl; more = λ n c cs k. refl }

pub numerals : IsNumeralModel AllDecimal (value_after 0)
numerals = numerals_by_fold AllDecimal tells value_after folds

pub not_less : (n : ℕ) (ds : List ℕ) → n ≤ value_after n ds
not_less n [] = omega arith
not_less n (d ∷ ds) = let more = not_less (n * 10 + (d - 48)) ds in omega (arith, more)

pub digit_passes : (d : ℕ) → IsInRange 48 57 d → is_ascii_digit d ≡ true
digit_passes d k = rw (le-leb 48 d k.0, le-leb d 57 k.1) refl

-- ---- a conversion, read from its text

abbrev pub argument : Flags → Letter → Piece
argument f l = piece.Argument (record { left = f.left; zeros = f.zeros; width = f.width; letter = l })

abbrev pub with_width : Flags → ℕ → Flags
with_width f n = record { left = f.left; zeros = f.zeros; width = n }

by_letter : (P : Letter → ℕ → Type 0) → P letter.Signed 100 → P letter.Signed 105 → P letter.Unsigned 117 → P letter.Hexadecimal 120 → P letter.Octal 111 → P letter.Text 115 →
    (k : Letter) (l : ℕ) → IsOneOf l (letters k) → P k l
by_letter P d i u x o s letter.Signed l (inl e) = subst (P letter.Signed) (sym e) d
by_letter P d i u x o s letter.Signed l (inr (inl e)) = subst (P letter.Signed) (sym e) i
by_letter P d i u x o s letter.Signed l (inr (inr none)) = absurd none
by_letter P d i u x o s letter.Unsigned l (inl e) = subst (P letter.Unsigned) (sym e) u
by_letter P d i u x o s letter.Unsigned l (inr none) = absurd none
by_letter P d i u x o s letter.Hexadecimal l (inl e) = subst (P letter.Hexadecimal) (sym e) x
by_letter P d i u x o s letter.Hexadecimal l (inr none) = absurd none
by_letter P d i u x o s letter.Octal l (inl e) = subst (P letter.Octal) (sym e) o
by_letter P d i u x o s letter.Octal l (inr none) = absurd none
by_letter P d i u x o s letter.Text l (inl e) = subst (P letter.Text) (sym e) s
by_letter P d i u x o s letter.Text l (inr none) = absurd none

by_length : (P : List ℕ → Type 0) → P [] → P (104 ∷ []) → P (104 ∷ 104 ∷ []) → P (108 ∷ []) → P (108 ∷ 108 ∷ []) → (size : List ℕ) → IsOneOf size lengths → P size
by_length P z h hh l ll size (inl e) = subst P (sym e) z
by_length P z h hh l ll size (inr (inl e)) = subst P (sym e) h
by_length P z h hh l ll size (inr (inr (inl e))) = subst P (sym e) hh
by_length P z h hh l ll size (inr (inr (inr (inl e)))) = subst P (sym e) l
by_length P z h hh l ll size (inr (inr (inr (inr (inl e))))) = subst P (sym e) ll
by_length P z h hh l ll size (inr (inr (inr (inr (inr none))))) = absurd none

-- the rest is read after this piece
abbrev Reads : List Piece → Place → List ℕ → Piece → List ℕ → Type 0
Reads done index text p rest = pieces_from done index (text ++ rest) ≡ pieces_from (done ++ p ∷ []) at.Outside rest

-- where no digit stands, nor a flag, and perhaps right after the percent sign
abbrev ReadsEnd : List Piece → Flags → List ℕ → Letter → List ℕ → Type 0
ReadsEnd done f text k rest =
    Reads done (at.Width f) text (argument f k) rest × Reads done (at.Flagged f) text (argument f k) rest × Reads done at.Opened text (argument no_flags k) rest

end_read : (done : List Piece) (f : Flags) (rest size : List ℕ) (l : ℕ) (k : Letter) → IsOneOf size lengths → IsOneOf l (letters k) → ReadsEnd done f (size ++ l ∷ []) k rest
end_read done f rest size l k sized lettered =
    by_length (λ s. ReadsEnd done f (s ++ l ∷ []) k rest)
    (by_letter (λ m b. ReadsEnd done f (b ∷ []) m rest) (refl, refl, refl) (refl, refl, refl) (refl, refl, refl) (refl, refl, refl) (refl, refl, refl) (refl, refl, refl) k l lettered)
    (by_letter (λ m b. ReadsEnd done f (104 ∷ b ∷ []) m rest) (refl, refl, refl) (refl, refl, refl) (refl, refl, refl) (refl, refl, refl) (refl, refl, refl) (refl, refl, refl) k l lettered)
    (by_letter (λ m b. ReadsEnd done f (104 ∷ 104 ∷ b ∷ []) m rest) (refl, refl, refl) (refl, refl, refl) (refl, refl, refl) (refl, refl, refl) (refl, refl, refl) (refl, refl, refl) k l lettered)
    (by_letter (λ m b. ReadsEnd done f (108 ∷ b ∷ []) m rest) (refl, refl, refl) (refl, refl, refl) (refl, refl, refl) (refl, refl, refl) (refl, refl, refl) (refl, refl, refl) k l lettered)
    (by_letter (λ m b. ReadsEnd done f (108 ∷ 108 ∷ b ∷ []) m rest) (refl, refl, refl) (refl, refl, refl) (refl, refl, refl) (refl, refl, refl) (refl, refl, refl) (refl, refl, refl) k l lettered)
    size sized

-- a digit that fits is taken
digit_read : (done : List Piece) (f : Flags) (d : ℕ) (bs : List ℕ) → IsInRange 48 57 d → f.width * 10 + (d - 48) ≤ 255 →
    pieces_from done (at.Width f) (d ∷ bs) ≡ pieces_from done (at.Width (with_width f (f.width * 10 + (d - 48)))) bs
digit_read done f d bs k fits = rw (digit_passes d k, le-leb (f.width * 10 + (d - 48)) 255 fits) refl

digits_read : (done : List Piece) (f : Flags) (ds more : List ℕ) → AllDecimal ds → value_after f.width ds ≤ 255 →
    pieces_from done (at.Width f) (ds ++ more) ≡ pieces_from done (at.Width (with_width f (value_after f.width ds))) more
digits_read done f [] more all fits = refl
digits_read done f (d ∷ ds) more all fits =
    let least = not_less (f.width * 10 + (d - 48)) ds in
    digit_read done f d (ds ++ more) all.0 (omega (arith, least, fits)) ∙ digits_read done (with_width f (f.width * 10 + (d - 48))) ds more all.1 fits

-- the first digit of a width is no flag
first_digit_read : (done : List Piece) (f : Flags) (d : ℕ) (bs : List ℕ) → 48 < d →
    (pieces_from done (at.Flagged f) (d ∷ bs) ≡ pieces_from done (at.Width f) (d ∷ bs)) × (pieces_from done at.Opened (d ∷ bs) ≡ pieces_from done (at.Width no_flags) (d ∷ bs))
first_digit_read done f d bs over = (
  rw (ne_eqb d 45 (λ e. omega (arith, e, over)), ne_eqb d 48 (λ e. omega (arith, e, over))) refl,
  rw (ne_eqb d 37 (λ e. omega (arith, e, over)), ne_eqb d 45 (λ e. omega (arith, e, over)), ne_eqb d 48 (λ e. omega (arith, e, over))) refl,
)

-- after the flags, or right after the percent sign
abbrev ReadsWidth : List Piece → Flags → ℕ → List ℕ → Letter → List ℕ → Type 0
ReadsWidth done f w text k rest =
    Reads done (at.Flagged f) text (argument (with_width f w) k) rest × Reads done at.Opened text (argument (with_width no_flags w) k) rest

digits_then_end : (done : List Piece) (f : Flags) (w : ℕ) (ds size rest : List ℕ) (l : ℕ) (k : Letter) → f.width ≡ 0 → AllDecimal ds → value_after 0 ds ≡ w → w ≤ 255 → 48 < get_or ds 0 0 →
    IsOneOf size lengths → IsOneOf l (letters k) → ReadsWidth done f w (ds ++ (size ++ l ∷ [])) k rest
digits_then_end done f w [] size rest l k none all value small over sized lettered = absurd (omega (arith, over))
digits_then_end done f w (d ∷ ds) size rest l k none all value small over sized lettered =
    let tail = size ++ l ∷ [] in
    let first = first_digit_read done f d ((ds ++ tail) ++ rest) over in
    let joined : ((d ∷ ds) ++ tail) ++ rest ≡ (d ∷ ds) ++ (tail ++ rest) = append_assoc (d ∷ ds) tail rest in
    let of_flags : value_after f.width (d ∷ ds) ≡ w = rw none value in
    let here = digits_read done f (d ∷ ds) (tail ++ rest) all (omega (arith, of_flags, small)) in
    let there = digits_read done no_flags (d ∷ ds) (tail ++ rest) all (omega (arith, value, small)) in
    let one = end_read done (with_width f (value_after f.width (d ∷ ds))) rest size l k sized lettered in
    let two = end_read done (with_width no_flags (value_after 0 (d ∷ ds))) rest size l k sized lettered in (
      first.0 ∙ ap (pieces_from done (at.Width f)) joined ∙ here ∙ one.0 ∙ ap (λ n. pieces_from (done ++ argument (with_width f n) k ∷ []) at.Outside rest) of_flags,
      first.1 ∙ ap (pieces_from done (at.Width no_flags)) joined ∙ there ∙ two.0 ∙ ap (λ n. pieces_from (done ++ argument (with_width no_flags n) k ∷ []) at.Outside rest) value,
    )

width_then_end : (done : List Piece) (f : Flags) (w : ℕ) (size rest : List ℕ) (l : ℕ) (k : Letter) → f.width ≡ 0 → w ≤ 255 →
    IsOneOf size lengths → IsOneOf l (letters k) → ReadsWidth done f w (width_text w ++ (size ++ l ∷ [])) k rest
width_then_end done f zero size rest l k none small sized lettered =
    let end = end_read done f rest size l k sized lettered in
    (end.1 ∙ ap (λ n. pieces_from (done ++ argument (with_width f n) k ∷ []) at.Outside rest) none, end.2)
width_then_end done f (suc n) size rest l k none small sized lettered =
    let fits : suc n < 2 ^ 64 = omega arith in
    digits_then_end done f (suc n) (decimal (suc n)) size rest l k none (digits_decimal numerals (suc n) fits) (digits_value-decimal numerals (suc n) fits) small
    (first_decimal (suc n) (omega arith) fits) sized lettered

-- ---- flags

abbrev pub with_flags : Flags → List ℕ → Flags
with_flags f flags = record { left = char_set_contains flags 45 || f.left; zeros = char_set_contains flags 48 || f.zeros; width = f.width }

flags_read : (done : List Piece) (f : Flags) (flags body rest : List ℕ) → AreFlags flags →
    pieces_from done (at.Flagged f) ((flags ++ body) ++ rest) ≡ pieces_from done (at.Flagged (with_flags f flags)) (body ++ rest)
flags_read done f [] body rest all = refl
flags_read done f (b ∷ flags) body rest (inl e, all) =
    rw e (flags_read done (record { left = true; zeros = f.zeros; width = f.width }) flags body rest all
    ∙ ap (λ left. pieces_from done (at.Flagged (record { left = left; zeros = char_set_contains flags 48 || f.zeros; width = f.width })) (body ++ rest)) (or-true (char_set_contains flags 45)))
flags_read done f (b ∷ flags) body rest (inr (inl e), all) =
    rw e (flags_read done (record { left = f.left; zeros = true; width = f.width }) flags body rest all
    ∙ ap (λ zeros. pieces_from done (at.Flagged (record { left = char_set_contains flags 45 || f.left; zeros = zeros; width = f.width })) (body ++ rest)) (or-true (char_set_contains flags 48)))
flags_read done f (b ∷ flags) body rest (inr (inr none), all) = absurd none

-- the first flag follows the percent sign
first_flag_read : (done : List Piece) (b : ℕ) (bs : List ℕ) → IsOneOf b (45 ∷ 48 ∷ []) → pieces_from done at.Opened (b ∷ bs) ≡ pieces_from done (at.Flagged no_flags) (b ∷ bs)
first_flag_read done b bs (inl e) = rw e refl
first_flag_read done b bs (inr (inl e)) = rw e refl
first_flag_read done b bs (inr (inr none)) = absurd none

-- the conversion that the flags begin
abbrev with_both : List ℕ → ℕ → Letter → Piece
with_both flags w k = piece.Argument (record { left = char_set_contains flags 45 || false; zeros = char_set_contains flags 48 || false; width = w; letter = k })

opened_read : (done : List Piece) (flags size rest : List ℕ) (w l : ℕ) (k : Letter) → AreFlags flags → w ≤ 255 → IsOneOf size lengths → IsOneOf l (letters k) →
    Reads done at.Opened (flags ++ (width_text w ++ (size ++ l ∷ []))) (with_both flags w k) rest
opened_read done [] size rest w l k all small sized lettered = (width_then_end done no_flags w size rest l k refl small sized lettered).1
opened_read done (b ∷ flags) size rest w l k all small sized lettered =
    let body = width_text w ++ (size ++ l ∷ []) in
    first_flag_read done b ((flags ++ body) ++ rest) all.0
    ∙ flags_read done no_flags (b ∷ flags) body rest all
    ∙ (width_then_end done (with_flags no_flags (b ∷ flags)) w size rest l k refl small sized lettered).0

-- ---- formats

-- the pieces in turn, each before what those after it spell
abbrev pub SpellInTurn : List Piece → List ℕ → Type 0
SpellInTurn [] format = format ≡ []
SpellInTurn (p ∷ ps) format =
    (text : List ℕ) × (rest : List ℕ) × SpellsPiece p text × SpellInTurn ps rest × (format ≡ text ++ rest)

in_turn : (ps : List Piece) (texts : List (List ℕ)) (format : List ℕ) → AllZip SpellsPiece ps texts → format ≡ concat texts → SpellInTurn ps format
in_turn [] [] format h is = is
in_turn [] (text ∷ texts) format h is = absurd h
in_turn (p ∷ ps) [] format h is = absurd h
in_turn (p ∷ ps) (text ∷ texts) format h is = (text, concat texts, h.0, in_turn ps texts (concat texts) h.1 refl, is)

pub spell_format : (ps : List Piece) (format : List ℕ) → SpellInTurn ps format → SpellsFormat ps format
spell_format [] format h = ([], tt, h)
spell_format (p ∷ ps) format h =
    let later = spell_format ps h.1 h.3 in
    (h.0 ∷ later.0, (h.2, later.1), h.4 ∙ ap (λ rest. h.0 ++ rest) later.2)

conversion_read : (done : List Piece) (c : Conversion) (text rest : List ℕ) → IsConversion c text → Reads done at.Outside text (piece.Argument c) rest
conversion_read done c text rest h =
    let same : with_both h.0 c.width c.letter ≡ piece.Argument c = rw (or-false (char_set_contains h.0 45), or-false (char_set_contains h.0 48), ← h.4, ← h.5) refl in
    rw h.9 (opened_read done h.0 h.1 rest c.width h.2 c.letter (are_flags h.0 h.3) h.6 (one_of lengths h.1 h.7) (one_of (letters c.letter) h.2 h.8) ∙ ap (λ p. pieces_from (done ++ p ∷ []) at.Outside rest) same)

byte_read : (done : List Piece) (b : ℕ) (rest : List ℕ) (t : Bool) → (b == 37) ≡ t → Reads done at.Outside (if t then 37 ∷ 37 ∷ [] else b ∷ []) (piece.Byte b) rest
byte_read done b rest true e = rw (eqb-true b 37 e) refl
byte_read done b rest false e = rw e refl

piece_read : (done : List Piece) (p : Piece) (text rest : List ℕ) → SpellsPiece p text → Reads done at.Outside text p rest
piece_read done (piece.Byte b) text rest h = rw h (byte_read done b rest (b == 37) refl)
piece_read done (piece.Argument c) text rest h = conversion_read done c text rest h

all_read : (done ps : List Piece) (format : List ℕ) → SpellInTurn ps format → pieces_from done at.Outside format ≡ Some (done ++ ps)
all_read done [] format h = rw (h, append-nil done) refl
all_read done (p ∷ ps) format h =
    rw h.4 (piece_read done p h.0 h.1 h.2 ∙ all_read (done ++ p ∷ []) ps h.1 h.3 ∙ ap (λ all. Some all) (append_assoc done (p ∷ []) ps))

pub spelled_is_read : (format : List ℕ) (ps : List Piece) → SpellsFormat ps format → pieces format ≡ Some ps
spelled_is_read format ps h = all_read [] ps format (in_turn ps h.0 format h.1 h.2)

pub one_spelling : (format : List ℕ) (ps qs : List Piece) → SpellsFormat ps format → SpellsFormat qs format → ps ≡ qs
one_spelling format ps qs g h =
    let both : ◌≡◌ {A = Option (List Piece)} (Some ps) (Some qs) = sym (spelled_is_read format ps g) ∙ spelled_is_read format qs h in
    cc
