-- What a format takes.
-- Source: Dynamic Tracing Guide, "Output Formatting".
use Rattle.std.specs.Prelude.{◌&&◌, Bool, true, false, not, List, [], ◌∷◌}
use Rattle.d_types.specs.Vocabulary.{DType, Letter, Piece}
use Rattle.d_types.specs.Aggregations.{is_integer}
use Rattle.d_types.specs.Typed.{Typeds, end, more, type_of}

-- %s takes a text, the others an integer
abbrev pub takes_type : Letter → DType → Bool
takes_type Letter.Text t = not (is_integer t)
takes_type letter t = is_integer t

-- an argument for each conversion, of its kind
abbrev pub fit : List Piece → Typeds → Bool
fit [] end = true
fit (Piece.Byte b ∷ ps) args = fit ps args
fit (Piece.Argument c ∷ ps) (more x rest) = takes_type c.letter (type_of x) && fit ps rest
fit ps args = false
