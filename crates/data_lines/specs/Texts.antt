-- Texts as JSON values.
-- Source: RFC 8259, section 7 (strings).
use Rattle.std.specs.Prelude.{ℕ, ◌/◌, ◌%◌, ◌==◌, ◌||◌, nat_lt, Bool, false, if◌then◌else◌}
use Rattle.std.specs.Prelude.{List, [], ◌∷◌, ◌++◌, codes}
use Rattle.data_lines.specs.Vocabulary.{digit_glyph, flat_map, is_utf8}

-- a byte in two hexadecimal digits
abbrev pub hex_digits : ℕ → List ℕ
hex_digits byte = digit_glyph false (byte / 16) ∷ digit_glyph false (byte % 16) ∷ []

abbrev pub is_control : ℕ → Bool
is_control byte = nat_lt byte 32 || (byte == 127)

-- a quotation mark, a backslash, a line feed and a tab have two characters, other control
-- characters six, and all other bytes stay as they are
abbrev pub json_escape : ℕ → List ℕ
json_escape byte =
    if byte == 34 then codes "\\\""
    else if byte == 92 then codes "\\\\"
    else if byte == 10 then codes "\\n"
    else if byte == 9 then codes "\\t"
    else if is_control byte then codes "\\u00" ++ hex_digits byte
    else byte ∷ []

abbrev pub json_string : List ℕ → List ℕ
json_string text = codes "\"" ++ flat_map json_escape text ++ codes "\""

-- an object whose one member has the bytes in hexadecimal digits
abbrev pub in_hex : List ℕ → List ℕ
in_hex text = codes "{\"hex\":\"" ++ flat_map hex_digits text ++ codes "\"}"

-- a string if the text is UTF-8, as JSON's strings have to be
abbrev pub text_value : List ℕ → List ℕ
text_value text = if is_utf8 text then json_string text else in_hex text
