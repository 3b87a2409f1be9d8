-- The tokens from left to right.
use Rattle.std.specs.Prelude.{ℕ, zero, suc, ◌+◌, ◌≤◌, ◌==◌, Bool, true, false, ◌&&◌}
use Rattle.std.specs.Prelude.{if◌then◌else◌, Option, Some, None, Result, Ok, Err, List, [], ◌∷◌}
use Rattle.std.specs.Prelude.{length, take, take_while}
use Rattle.d_lexer.specs.Vocabulary.{is_ascii_digit, Mark, Suffix, Token, TokenKind, Place, Head}
use Rattle.d_lexer.specs.Vocabulary.{Declaration, Predicate, Body, Position, Front, Flaw, Stop, Gap}
use Rattle.d_lexer.specs.Vocabulary.{LexFault}
use Rattle.d_lexer.specs.Vocabulary.{BadByte, Unclosed, Constant, Escape, OptionLine}
use Rattle.d_lexer.specs.Bytes.{next_is, is_blank_byte, is_word_start, is_word_byte, is_run_byte}
use Rattle.std.specs.Str.{byte}
use Rattle.d_lexer.specs.Bytes.{is_inside, begins_comment, escape_of, is_declaring}
use Rattle.d_lexer.specs.Places.{after_byte, is_first, is_hash, place_after}
use Rattle.d_lexer.specs.{Steps.Numbers.number_spelled, Steps.Marks.mark_by, Faults.on_line}
use Rattle.d_lexer.specs.{Steps.OptionLine.is_option}
use Rattle.d_lexer.specs.Steps.Outcomes.{Gives as GivesBy}

-- the flaw for which a step stops, none if memory was refused
abbrev pub flaw_of : Stop → Option Flaw
flaw_of Stop.Memory = None
flaw_of (Stop.Flawed g) = Some g

-- what was read, unless memory was refused
abbrev pub Gives : {X : Type 0} → Result X Stop → Result X Flaw → Type 0
Gives result read = GivesBy flaw_of (λ x. x) result read

-- what was read, and then more; a flaw stays
infixl 10 ◌>>=◌
abbrev pub ◌>>=◌ : {A B : Type 0} → Result A Flaw → (A → Result B Flaw) → Result B Flaw
(Ok x) >>= f = f x
(Err e) >>= f = Err e

-- ---- parts

-- how many bytes at the front pass
abbrev pub run_len : (ℕ → Bool) → List ℕ → ℕ
run_len test z = length (take_while test z)

-- the bytes at the front that pass
abbrev pub front_run : (ℕ → Bool) → List ℕ → List ℕ
front_run test z = take (run_len test z) z

-- all but the first
abbrev pub tail : List ℕ → List ℕ
tail [] = []
tail (b ∷ z) = z

-- one byte more, written as it is
abbrev pub with_byte : ℕ → Result (List ℕ × ℕ) Flaw → Result (List ℕ × ℕ) Flaw
with_byte x read = read >>= λ r. Ok (x ∷ r.0, suc r.1)

-- one byte more, which means none: a backslash
abbrev pub skip_one : Result (List ℕ × ℕ) Flaw → Result (List ℕ × ℕ) Flaw
skip_one read = read >>= λ r. Ok (r.0, suc r.1)

-- one byte more, after a backslash
abbrev pub put_escape : Option ℕ → Result (List ℕ × ℕ) Flaw → Result (List ℕ × ℕ) Flaw
put_escape None read = Err Escape
put_escape (Some x) read = with_byte x read

-- what a text constant holds, and how many bytes it has after its first quote; the test says that a
-- backslash came before
unfoldable pub text_from : Bool → List ℕ → Result (List ℕ × ℕ) Flaw
text_from escaped [] = Err Unclosed
text_from true (b ∷ z) = put_escape (escape_of b) (text_from false z)
text_from false (b ∷ z) =
    if b == byte "\"" then Ok ([], 1)
    else (if b == byte "\n" then Err Unclosed
    else (if b == 0 then Err BadByte
    else (if b == byte "\\" then skip_one (text_from true z)
    else with_byte b (text_from false z))))

-- one byte more
abbrev pub one_longer : Option ℕ → Option ℕ
one_longer None = None
one_longer (Some n) = Some (suc n)

-- how many bytes a comment has after its /*
unfoldable pub comment_from : List ℕ → Option ℕ
comment_from [] = None
comment_from (b ∷ z) =
    if b == byte "*" && next_is (byte "/") z then Some 2 else one_longer (comment_from z)

-- a mark with its length less one, or the other if there is none
abbrev pub with_length : ℕ → Option Mark → Option (Mark × ℕ) → Option (Mark × ℕ)
with_length n None other = other
with_length n (Some k) other = Some (k, n)

-- the mark if one byte is left
abbrev pub one_at : Place → ℕ → Option (Mark × ℕ)
one_at p a = with_length 0 (mark_by p (a ∷ [])) None

-- if two are
abbrev pub two_at : Place → ℕ → ℕ → Option (Mark × ℕ)
two_at p a b = with_length 1 (mark_by p (a ∷ b ∷ [])) (one_at p a)

-- if three or more are
abbrev pub three_at : Place → ℕ → ℕ → ℕ → Option (Mark × ℕ)
three_at p a b c = with_length 2 (mark_by p (a ∷ b ∷ c ∷ [])) (two_at p a b)

-- the longest mark at the front, and its number of bytes after the first
unfoldable pub mark_at : Place → ℕ → List ℕ → Option (Mark × ℕ)
mark_at p a [] = one_at p a
mark_at p a (b ∷ []) = two_at p a b
mark_at p a (b ∷ c ∷ z) = three_at p a b c

-- no more bytes than there are
abbrev pub FitsFront : Front → ℕ → Type 0
FitsFront (Gap n) len = n ≤ len
FitsFront (Front.Token k n) len = n ≤ len

-- ---- what is at the front: a gap or a token, with its number of bytes after the first

-- a mark, or a byte that begins nothing
abbrev pub mark_front : Option (Mark × ℕ) → Result Front Flaw
mark_front None = Err BadByte
mark_front (Some k) = Ok (Front.Token (TokenKind.Mark k.0) k.1)

-- a number, or the fault of a malformed one
abbrev pub number_front : Option (ℕ × Suffix) → ℕ → Result Front Flaw
number_front None len = Err Constant
number_front (Some n) len = Ok (Front.Token (TokenKind.Number n.0 n.1) len)

-- a comment, or one without an end
abbrev pub comment_front : Option ℕ → Result Front Flaw
comment_front None = Err Unclosed
comment_front (Some n) = Ok (Gap (suc n))

-- self and this are words, and every other run is a description run
abbrev pub head_kind : List ℕ → TokenKind
head_kind w = if is_declaring w then TokenKind.Word w else TokenKind.DescriptionRun w

-- a word
abbrev pub word_front : ℕ → List ℕ → Result Front Flaw
word_front b z =
    Ok (Front.Token (TokenKind.Word (b ∷ front_run is_word_byte z)) (run_len is_word_byte z))

-- a run that begins with a digit
abbrev pub run_number : ℕ → List ℕ → Result Front Flaw
run_number b z =
    number_front (number_spelled (b ∷ front_run is_word_byte z)) (run_len is_word_byte z)

-- a run of the head
abbrev pub run_front : ℕ → List ℕ → Result Front Flaw
run_front b z =
    Ok (Front.Token (head_kind (b ∷ front_run is_run_byte z)) (run_len is_run_byte z))

-- @ alone
abbrev pub bare_name : Result Front Flaw
bare_name = Ok (Front.Token (TokenKind.AggregationName (byte "_" ∷ [])) 0)

-- @ and a word
abbrev pub whole_name : ℕ → List ℕ → Result Front Flaw
whole_name b z =
    let word = b ∷ front_run is_word_byte z in
    Ok (Front.Token (TokenKind.AggregationName word) (suc (run_len is_word_byte z)))

-- an aggregation name, from after its @
abbrev pub aggregation_front : List ℕ → Result Front Flaw
aggregation_front [] = bare_name
aggregation_front (b ∷ z) = if is_word_start b then whole_name b z else bare_name

-- a text constant, or what is wrong with it
abbrev pub text_front : Result (List ℕ × ℕ) Flaw → Result Front Flaw
text_front (Ok t) = Ok (Front.Token (TokenKind.TextConstant t.0) t.1)
text_front (Err f) = Err f

-- a token of a declaration, a predicate or a body
unfoldable pub inside_at : Place → ℕ → List ℕ → Result Front Flaw
inside_at p b z =
    if is_word_start b then word_front b z
    else (if is_ascii_digit b then run_number b z
    else (if b == byte "@" then aggregation_front z
    else (if b == byte "\"" then text_front (text_from false z)
    else mark_front (mark_at p b z))))

-- a token of the head
unfoldable pub head_at : ℕ → List ℕ → Result Front Flaw
head_at b z = if is_run_byte b then run_front b z else mark_front (mark_at Head b z)

-- a token of the place
unfoldable pub token_at : Place → ℕ → List ℕ → Result Front Flaw
token_at Head b z = head_at b z
token_at Declaration b z = inside_at Declaration b z
token_at Predicate b z = inside_at Predicate b z
token_at Body b z = inside_at Body b z

-- an option line, from after its #
abbrev pub option_front : List ℕ → Result Front Flaw
option_front z =
    if is_option (byte "#" ∷ front_run is_inside z) then Ok (Gap (run_len is_inside z))
    else Err OptionLine

-- what is at the front of the bytes
unfoldable pub front_at : Place → Position → ℕ → List ℕ → Result Front Flaw
front_at p pos b z =
    if is_blank_byte b then Ok (Gap 0)
    else (if begins_comment (b ∷ z) then comment_front (comment_from (tail z))
    else (if is_first pos b z then Ok (Gap (run_len is_inside z))
    else (if is_hash p pos b then option_front z
    else token_at p b z)))

-- how the tokens end: with the bytes, or at a fault
pub data TokensEnd : Type 0 where
  Clean : TokensEnd
  Bad : LexFault → TokensEnd

-- the tokens, and how they end
abbrev pub Scanned : Type 0
Scanned = List Token × TokensEnd

-- one token more
abbrev pub with_first_token : Token → Scanned → Scanned
with_first_token t s = (t ∷ s.0, s.1)

-- the token of this kind, which begins here and has n bytes more than one
abbrev pub token_from : Position → TokenKind → ℕ → Token
token_from pos t n = record { kind = t; start = pos.at; stop = pos.at + suc n; line = pos.line }

-- the step that what is at the front leads to
abbrev pub scan_by : (go : ℕ → Place → Scanned) → Place → Position → Result Front Flaw → Scanned
scan_by go p pos (Err g) = ([], Bad (on_line g pos.line))
scan_by go p pos (Ok (Gap n)) = go n p
scan_by go p pos (Ok (Front.Token t n)) =
    with_first_token (token_from pos t n) (go n (place_after p t))

-- the tokens of the bytes, once the first n are passed
unfoldable pub scan : ℕ → Place → Position → List ℕ → Scanned
scan n p pos [] = ([], Clean)
scan (suc n) p pos (b ∷ z) = scan n p (after_byte pos b) z
scan zero p pos (b ∷ z) = scan_by (λ n q. scan n q (after_byte pos b) z) p pos (front_at p pos b z)
