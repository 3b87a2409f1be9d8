-- Kinds of bytes.
-- Source: Dynamic Tracing Guide, "Keywords" and "Constants".
use Rattle.std.specs.Prelude.{ℕ, ◌==◌, nat_le, Bool, false, not, ◌&&◌, ◌||◌, List, [], ◌∷◌, Option}
use Rattle.std.specs.Prelude.{codes, drop, slice_get}
use Rattle.std.specs.{List.list_any, Map.lookup, Option.option_map_or, Str.byte, Str.bytes_eq}
use Rattle.std.specs.Char.{is_ascii_alphabetic, is_ascii_alphanumeric}

-- space, tab, line feed, vertical tab, form feed, carriage return
abbrev pub is_blank_byte : ℕ → Bool
is_blank_byte b = b == byte " " || (nat_le 9 b && nat_le b 13)

-- a space or a tab
abbrev pub is_space : ℕ → Bool
is_space b = b == byte " " || b == byte "\t"

-- a letter or _
abbrev pub is_word_start : ℕ → Bool
is_word_start b = is_ascii_alphabetic b || b == byte "_"

-- a letter, a digit or _
abbrev pub is_word_byte : ℕ → Bool
is_word_byte b = is_ascii_alphanumeric b || b == byte "_"

-- letters, digits and _ . - + : * ?
abbrev pub is_run_byte : ℕ → Bool
is_run_byte b = is_word_byte b || list_any (λ c. b == c) (codes ".-+:*?")

-- a byte of the same line
abbrev pub is_inside : ℕ → Bool
is_inside b = not (b == byte "\n")

-- this byte comes next
abbrev pub next_is : ℕ → List ℕ → Bool
next_is c z = option_map_or (λ b. b == c) (slice_get z 0) false

-- /* comes next
abbrev pub begins_comment : List ℕ → Bool
begins_comment z = next_is (byte "/") z && next_is (byte "*") (drop 1 z)

-- what may come after a backslash, and the byte that it means there
abbrev pub escapes : List (ℕ × ℕ)
escapes =
    (byte "a", 7) ∷ (byte "b", 8) ∷ (byte "f", 12) ∷ (byte "n", byte "\n")
    ∷ (byte "r", byte "\r") ∷ (byte "t", byte "\t") ∷ (byte "v", 11) ∷ (byte "\\", byte "\\")
    ∷ (byte "\"", byte "\"") ∷ (byte "'", byte "'") ∷ (byte "?", byte "?") ∷ []

-- the byte that an escape means
abbrev pub escape_of : ℕ → Option ℕ
escape_of e = lookup (λ c. e == c) escapes

-- a byte that stands for itself in a text constant
abbrev pub stands_for_itself : ℕ → Bool
stands_for_itself b = not (b == byte "\"" || b == byte "\\" || b == byte "\n" || b == 0)

-- the words that begin a declaration
abbrev pub is_declaring : List ℕ → Bool
is_declaring w = bytes_eq w (codes "self") || bytes_eq w (codes "this")
