-- What the text of a format means.
-- Source: Dynamic Tracing Guide, "Output Formatting".
use Rattle.std.specs.Prelude.{◌≡◌, ℕ, zero, suc, ◌≤◌, ◌==◌, if◌then◌else◌, List, [], ◌∷◌, ◌++◌}
use Rattle.std.specs.Prelude.{codes}
use Rattle.std.specs.List.{AllByRecursion, AllZip, Contains, concat}
use Rattle.std.specs.{Char.char_set_contains, Str.byte}
use Rattle.d_types.specs.Vocabulary.{decimal, MAX_WIDTH, Letter, Conversion, Piece}

-- in decimal, or nothing if there is no width
abbrev pub width_text : ℕ → List ℕ
width_text zero = []
width_text (suc n) = decimal (suc n)

-- what may come before the letter, and says nothing
abbrev pub lengths : List (List ℕ)
lengths = codes "" ∷ codes "h" ∷ codes "hh" ∷ codes "l" ∷ codes "ll" ∷ []

abbrev pub letters : Letter → List ℕ
letters Letter.Signed = codes "di"
letters Letter.Unsigned = codes "u"
letters Letter.Hexadecimal = codes "x"
letters Letter.Octal = codes "o"
letters Letter.Text = codes "s"

-- a percent sign, the flags - and 0 in any order and number, a width of 255 at most, a length and
-- a letter
abbrev pub IsConversion : Conversion → List ℕ → Type 0
IsConversion c text =
    (flags : List ℕ) × (size : List ℕ) × (l : ℕ)
    × AllByRecursion (Contains (codes "-0")) flags
    × (c.left ≡ char_set_contains flags (byte "-")) × (c.zeros ≡ char_set_contains flags (byte "0"))
    × (c.width ≤ MAX_WIDTH) × Contains lengths size × Contains (letters c.letter) l
    × (text ≡ codes "%" ++ (flags ++ (width_text c.width ++ (size ++ l ∷ []))))

-- a byte stands for itself, but a percent sign is written twice
abbrev pub SpellsPiece : Piece → List ℕ → Type 0
SpellsPiece (Piece.Byte b) text = text ≡ (if b == byte "%" then codes "%%" else b ∷ [])
SpellsPiece (Piece.Argument c) text = IsConversion c text

-- the format is the pieces' texts, one after another
abbrev pub SpellsFormat : List Piece → List ℕ → Type 0
SpellsFormat pieces format =
    (texts : List (List ℕ)) × AllZip SpellsPiece pieces texts × (format ≡ concat texts)
