-- The pieces of a format, read from left to right.
use Rattle.std.specs.Prelude.{ℕ, ◌+◌, ◌*◌, ◌-◌, ◌==◌, ◌||◌, nat_le, Bool, true, false}
use Rattle.std.specs.Prelude.{if◌then◌else◌, List, [], ◌∷◌, ◌++◌, Option, Some, None}
use Rattle.std.specs.Str.{byte}
use Rattle.d_parser.specs.Script.{is_ascii_digit}
use Rattle.d_types.specs.Vocabulary.{Letter, Piece, MAX_WIDTH, Flags, Place}

-- what a byte does: where the next byte is, and the piece that it ends, if any
abbrev pub Turn : Type 0
Turn = Option (Place × Option Piece)

abbrev pub goes : Place → Turn
goes place = Some (place, None)

abbrev pub ends : Piece → Turn
ends p = Some (Place.Outside, Some p)

-- the letter that a byte is
abbrev pub letter_of : ℕ → Option Letter
letter_of b =
    if b == byte "d" || b == byte "i" then Some Letter.Signed
    else if b == byte "u" then Some Letter.Unsigned
    else if b == byte "x" then Some Letter.Hexadecimal
    else if b == byte "o" then Some Letter.Octal
    else if b == byte "s" then Some Letter.Text
    else None

abbrev pub with_letter : Flags → Option Letter → Turn
with_letter f None = None
with_letter f (Some l) =
    ends (Piece.Argument (record { left = f.left; zeros = f.zeros; width = f.width; letter = l }))

-- a conversion ends with its letter
abbrev pub at_letter : Flags → ℕ → Turn
at_letter f b = with_letter f (letter_of b)

-- before it perhaps a length: h, hh, l or ll
abbrev pub at_length : Flags → ℕ → Turn
at_length f b =
    if b == byte "h" then goes (Place.Half f) else if b == byte "l" then goes (Place.Long f)
    else at_letter f b

-- before it perhaps a width
abbrev pub at_width : Flags → ℕ → Turn
at_width f b =
    if is_ascii_digit b
    then (if nat_le (f.width * 10 + (b - byte "0")) MAX_WIDTH
    then goes (Place.Width (record f { width = f.width * 10 + (b - byte "0") }))
    else None)
    else at_length f b

-- before it perhaps flags: - and 0
abbrev pub at_flags : Flags → ℕ → Turn
at_flags f b =
    if b == byte "-" then goes (Place.Flagged (record f { left = true }))
    else if b == byte "0" then goes (Place.Flagged (record f { zeros = true }))
    else at_width f b

abbrev pub no_flags : Flags
no_flags = record { left = false; zeros = false; width = 0 }

-- a percent sign begins a conversion, and two of them stand for one
abbrev pub turn : Place → ℕ → Turn
turn Place.Outside b = if b == byte "%" then goes Place.Opened else ends (Piece.Byte b)
turn Place.Opened b = if b == byte "%" then ends (Piece.Byte (byte "%")) else at_flags no_flags b
turn (Place.Flagged f) b = at_flags f b
turn (Place.Width f) b = at_width f b
turn (Place.Half f) b = if b == byte "h" then goes (Place.Sized f) else at_letter f b
turn (Place.Long f) b = if b == byte "l" then goes (Place.Sized f) else at_letter f b
turn (Place.Sized f) b = at_letter f b

abbrev pub with_piece : List Piece → Option Piece → List Piece
with_piece done None = done
with_piece done (Some p) = done ++ p ∷ []

abbrev pub is_outside : Place → Bool
is_outside Place.Outside = true
is_outside place = false

-- nothing is left open
abbrev pub pieces_at_end : Place → List Piece → Option (List Piece)
pieces_at_end place done = if is_outside place then Some done else None

abbrev pub option_then : {A B : Type 0} → Option A → (A → Option B) → Option B
option_then None go = None
option_then (Some x) go = go x

-- the pieces of the rest, after those that are done
abbrev pub pieces_from : List Piece → Place → List ℕ → Option (List Piece)
pieces_from done place [] = pieces_at_end place done
pieces_from done place (b ∷ bs) =
    option_then (turn place b) λ t. pieces_from (with_piece done t.1) t.0 bs

-- the pieces of a format, if it has only known conversions
abbrev pub pieces : List ℕ → Option (List Piece)
pieces bs = pieces_from [] Place.Outside bs
