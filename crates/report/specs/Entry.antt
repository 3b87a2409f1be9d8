-- The bytes of an entry.
-- Source: Dynamic Tracing Guide, "Aggregations".
use Rattle.std.specs.Prelude.{ℕ, List, ◌∷◌, ◌++◌, ℤ, codes}
use Rattle.std.specs.Str.{byte}
use Rattle.report.specs.Vocabulary.{KeyPart, Number, Name, Held, Figure, Single, Distribution}
use Rattle.report.specs.Vocabulary.{figure_of, signed_decimal, flat_map}
use Rattle.report.specs.Columns.{at_left, at_right}
use Rattle.report.specs.Histograms.{histogram_bytes}

-- a key, and what is held of its arguments
abbrev pub Entry : Type 0
Entry = List KeyPart × Held

-- a space, and the number in decimal at the right of 16
abbrev pub number_bytes : ℤ → List ℕ
number_bytes number = byte " " ∷ at_right 16 (signed_decimal number)

-- a number, or two spaces and a text at the left of 50
abbrev pub part_bytes : KeyPart → List ℕ
part_bytes (Number number) = number_bytes number
part_bytes (Name text) = codes "  " ++ at_left 50 text

-- a number and a line feed, or a histogram
abbrev pub value_bytes : Figure → List ℕ
value_bytes (Single number) = number_bytes number ++ codes "\n"
value_bytes (Distribution histogram) = histogram_bytes histogram

-- the parts of the key one after the other, and what the entry shows
abbrev pub entry_bytes : Entry → List ℕ
entry_bytes entry = flat_map part_bytes entry.0 ++ value_bytes (figure_of entry.1)
