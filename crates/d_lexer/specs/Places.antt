-- Where in the bytes, and in which of the four places.
-- Source: Dynamic Tracing Guide, "D Program Structure".
use Rattle.std.specs.Prelude.{ℕ, ◌+◌, ◌==◌, Bool, true, false, ◌&&◌, ◌||◌, if◌then◌else◌, List}
use Rattle.std.specs.List.{fold}
use Rattle.d_lexer.specs.Vocabulary.{Mark, TokenKind, Place, Head, Declaration, Predicate, Body}
use Rattle.d_lexer.specs.Vocabulary.{Position}
use Rattle.std.specs.Str.{byte}
use Rattle.d_lexer.specs.Bytes.{is_space, next_is}

-- ---- positions

-- the first byte's: line 1, which has held nothing yet
abbrev pub first_position : Position
first_position = record { at = 0; line = 1; fresh = true }

-- a line feed ends the line; spaces and tabs leave it fresh
abbrev pub after_byte : Position → ℕ → Position
after_byte pos b = record {
  at = pos.at + 1;
  line = if b == byte "\n" then pos.line + 1 else pos.line;
  fresh = b == byte "\n" || (pos.fresh && is_space b);
}

-- the position after the bytes
abbrev pub position_after : Position → List ℕ → Position
position_after pos bytes = fold after_byte pos bytes

-- ---- lines that are no tokens

-- the place is the head
abbrev pub is_head : Place → Bool
is_head Head = true
is_head p = false

-- the bytes begin here with #!
abbrev pub is_first : Position → ℕ → List ℕ → Bool
is_first pos b z = pos.at == 0 && b == byte "#" && next_is (byte "!") z

-- a line of the head begins here with #
abbrev pub is_hash : Place → Position → ℕ → Bool
is_hash p pos b = is_head p && pos.fresh && b == byte "#"

-- ---- the place that follows a token

-- braces, a slash of the head and a semicolon of a declaration lead elsewhere, and a word of the
-- head, which is self or this
abbrev pub place_after : Place → TokenKind → Place
place_after p (TokenKind.Mark Mark.OpenBrace) = Body
place_after p (TokenKind.Mark Mark.CloseBrace) = Head
place_after Head (TokenKind.Mark Mark.Slash) = Predicate
place_after Declaration (TokenKind.Mark Mark.Semicolon) = Head
place_after Head (TokenKind.Word w) = Declaration
place_after p t = p
