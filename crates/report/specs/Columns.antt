-- Columns of a fixed width. Widths count bytes, and nothing is cut.
use Rattle.std.specs.Prelude.{ℕ, ◌-◌, ◌≤◌, List, ◌++◌, length, replicate}
use Rattle.std.specs.Str.{byte}
use Rattle.report.specs.Vocabulary.{KeyPart, Number, Name, signed_decimal}

-- the text at the right of a column of this width
abbrev pub at_right : ℕ → List ℕ → List ℕ
at_right width text = replicate (width - length text) (byte " ") ++ text

-- the text at the left of a column of this width
abbrev pub at_left : ℕ → List ℕ → List ℕ
at_left width text = text ++ replicate (width - length text) (byte " ")

-- a number of at most 16 bytes with its sign, or a text of at most 50
abbrev pub FitsColumn : KeyPart → Type 0
FitsColumn (Number number) = length (signed_decimal number) ≤ 16
FitsColumn (Name text) = length text ≤ 50

-- how wide the part's column is, with the spaces before it
abbrev pub column_width : KeyPart → ℕ
column_width (Number number) = 17
column_width (Name text) = 52
