-- The texts that trace and printf make of values.
-- Source: Dynamic Tracing Guide, "Output Formatting".
use Rattle.std.specs.Prelude.{ℕ, ◌+◌, ◌-◌, ◌%◌, ◌^◌, List, [], ◌∷◌, ◌++◌, length, replicate, Bool}
use Rattle.std.specs.Prelude.{codes, false, if◌then◌else◌, ℤ, pos, int_lt, unsigned_abs}
use Rattle.std.specs.Fmt.{signed_decimal, digits}
use Rattle.std.specs.Str.{byte}
use Rattle.d_types.specs.Vocabulary.{cast_signed, w64, decimal, DType, Value, Conversion, Letter}
use Rattle.d_types.specs.Vocabulary.{Piece}
use Rattle.d_types.specs.Storage.{word_of, bytes_of}

abbrev pub is_signed : DType → Bool
is_signed (DType.Int t) = t.signed
is_signed DType.Text = false

-- the number that a word of the type is
abbrev pub number_in : DType → ℕ → ℤ
number_in t word = if is_signed t then cast_signed w64 word else pos word

-- the lowest bits of a word, as many as its type has: what `%u`, `%x` and `%o` show
abbrev pub low_in : DType → ℕ → ℕ
low_in (DType.Int t) word = word % 2 ^ t.width
low_in DType.Text word = word

-- ---- trace

-- the number in decimal with its sign, or the text, and a line feed
abbrev pub trace_line : DType → Value → List ℕ
trace_line t (Value.Int word) = signed_decimal (number_in t word) ++ codes "\n"
trace_line t (Value.Text bytes) = bytes ++ codes "\n"

-- ---- printf

abbrev pub sign_of : ℤ → List ℕ
sign_of n = if int_lt n (pos 0) then codes "-" else []

-- in the conversion's width: put left, or right after zeros that follow the sign, or right after
-- spaces
abbrev pub text_in_width : Conversion → Bool → List ℕ → List ℕ → List ℕ
text_in_width c zeros sign body =
    let room = c.width - (length sign + length body) in
    if c.left then sign ++ body ++ replicate room (byte " ")
    else if zeros then sign ++ replicate room (byte "0") ++ body
    else replicate room (byte " ") ++ sign ++ body

abbrev pub number_in_width : Conversion → ℤ → List ℕ
number_in_width c n = text_in_width c c.zeros (sign_of n) (decimal (unsigned_abs n))

abbrev pub digits_of : Letter → ℕ → List ℕ
digits_of Letter.Hexadecimal n = digits 16 false n
digits_of Letter.Octal n = digits 8 false n
digits_of letter n = decimal n

-- an argument by the conversion's letter
abbrev pub conversion_text : Letter → Conversion → DType → Value → List ℕ
conversion_text Letter.Signed c t value = number_in_width c (number_in t (word_of value))
conversion_text Letter.Text c t value = text_in_width c false [] (bytes_of value)
conversion_text letter c t value =
    text_in_width c c.zeros [] (digits_of letter (low_in t (word_of value)))

-- the pieces of the format, each conversion with the next argument
abbrev pub printf_text : List Piece → List (DType × Value) → List ℕ
printf_text [] values = []
printf_text (Piece.Byte b ∷ format) values = b ∷ printf_text format values
printf_text (Piece.Argument c ∷ format) [] = printf_text format []
printf_text (Piece.Argument c ∷ format) ((t, value) ∷ values) =
    conversion_text c.letter c t value ++ printf_text format values
