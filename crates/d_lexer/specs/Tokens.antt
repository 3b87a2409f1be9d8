-- Which tokens a script has.
-- Source: Dynamic Tracing Guide, "D Program Structure".
use Rattle.std.specs.Prelude.{◌≡◌, ℕ, ◌+◌, ◌≤◌, ◌⊎◌, Bool, true, false, ◌&&◌, ◌==◌, Some, List}
use Rattle.std.specs.Prelude.{[], ◌∷◌, ◌++◌, length, codes, slice_get, IfSome}
use Rattle.d_lexer.specs.Vocabulary.{AllByRecursion, is_ascii_digit, Mark, Token, TokenKind, Place}
use Rattle.d_lexer.specs.Vocabulary.{Head, Position}
use Rattle.std.specs.{Str.byte, List.AllZip, List.concat}
use Rattle.d_lexer.specs.Bytes.{next_is, is_blank_byte}
use Rattle.d_lexer.specs.Bytes.{is_word_start, is_word_byte, is_run_byte, is_inside}
use Rattle.d_lexer.specs.Bytes.{stands_for_itself, begins_comment, escape_of, is_declaring}
use Rattle.d_lexer.specs.Numbers.{IsIntegerConstant}
use Rattle.d_lexer.specs.Places.{position_after, is_hash, place_after}
use Rattle.d_lexer.specs.{Marks.mark_of, OptionLine.IsOptionLine}

-- ---- what separates tokens

-- own is all of the kind, and the rest goes on with another
pub record Fills (test : ℕ → Bool) (own rest : List ℕ) : Type 0 where
  pub all : AllByRecursion (λ c. test c ≡ true) own
  pub stops : IfSome (slice_get rest 0) (λ b. test b ≡ false)

-- no star of it is followed by a slash
abbrev pub HasNoEnd : List ℕ → Type 0
HasNoEnd [] = Unit {0}
HasNoEnd (b ∷ bs) = ((b == byte "*" && next_is (byte "/") bs) ≡ false) × HasNoEnd bs

-- one piece of what separates tokens: a blank, a comment, the first line, an option line
pub data IsSeparator (p : Place) (pos : Position) : (own rest : List ℕ) → Type 0 where
  blank : {own rest : List ℕ} (b : ℕ) → own ≡ b ∷ [] → is_blank_byte b ≡ true
      → IsSeparator p pos own rest
  comment : {own rest : List ℕ} (body : List ℕ) → own ≡ codes "/*" ++ (body ++ codes "*/")
      → HasNoEnd body → IsSeparator p pos own rest
  first_line : {own rest : List ℕ} (w : List ℕ) → own ≡ codes "#!" ++ w → pos.at ≡ 0
      → Fills is_inside w rest → IsSeparator p pos own rest
  option_line : {own rest : List ℕ} → is_hash p pos (byte "#") ≡ true → IsOptionLine own
      → Fills is_inside own rest → IsSeparator p pos own rest

-- zero or more pieces, followed by input that satisfies Then
pub data Past (p : Place) (Then : Position → List ℕ → Type 0) : Position → List ℕ → Type 0 where
  here : {pos : Position} {bytes : List ℕ} → Then pos bytes → Past p Then pos bytes
  past : {pos : Position} {bytes : List ℕ} (own rest : List ℕ) → bytes ≡ own ++ rest
      → IsSeparator p pos own rest → Past p Then (position_after pos own) rest
      → Past p Then pos bytes

-- ---- one token

-- the longest run at the front that begins with a byte of the first kind and goes on with the other
abbrev pub IsLongestRun : (first other : ℕ → Bool) → (own rest : List ℕ) → Type 0
IsLongestRun first other [] rest = ⊥
IsLongestRun first other (b ∷ bs) rest = (first b ≡ true) × Fills other bs rest

-- how one byte of a text constant is written: as it is, or as an escape
abbrev pub SpellsByte : ℕ → List ℕ → Type 0
SpellsByte x own =
    ((stands_for_itself x ≡ true) × (own ≡ x ∷ []))
    ⊎ ((e : ℕ) × (escape_of e ≡ Some x) × (own ≡ byte "\\" ∷ (e ∷ [])))

-- how the bytes of a text constant are written, one after the other
abbrev pub SpellsText : List ℕ → List ℕ → Type 0
SpellsText own bytes =
    (parts : List (List ℕ)) × AllZip SpellsByte bytes parts × (own ≡ concat parts)

-- these are the mark's bytes, and no longer mark and no comment begins there
pub record IsMark (p : Place) (own rest : List ℕ) (k : Mark) : Type 0 where
  pub is : mark_of p own ≡ Some k
  pub longest : (other after : List ℕ) (j : Mark) → mark_of p other ≡ Some j
      → own ++ rest ≡ other ++ after → length other ≤ length own
  pub no_comment : begins_comment (own ++ rest) ≡ false

-- a word directly after the @, or none
abbrev pub SpellsAggregation : (own rest w : List ℕ) → Type 0
SpellsAggregation own rest w =
    ((own ≡ codes "@") × (w ≡ codes "_") × IfSome (slice_get rest 0) (λ b. is_word_start b ≡ false))
    ⊎ ((own ≡ codes "@" ++ w) × IsLongestRun is_word_start is_word_byte w rest)

-- Own is the longest spelling of the token at the front of own ++ rest. In the head self and this
-- are words, and there are no other tokens but runs of descriptions and marks.
abbrev pub SpellsToken : Place → (own rest : List ℕ) → TokenKind → Type 0
SpellsToken p own rest (TokenKind.Mark k) = IsMark p own rest k
SpellsToken Head own rest (TokenKind.DescriptionRun w) =
    (w ≡ own) × (is_declaring own ≡ false) × IsLongestRun is_run_byte is_run_byte own rest
SpellsToken Head own rest (TokenKind.Word w) =
    (w ≡ own) × (is_declaring own ≡ true) × IsLongestRun is_run_byte is_run_byte own rest
SpellsToken Head own rest t = ⊥
SpellsToken p own rest (TokenKind.Word w) =
    (w ≡ own) × IsLongestRun is_word_start is_word_byte own rest
SpellsToken p own rest (TokenKind.AggregationName w) = SpellsAggregation own rest w
SpellsToken p own rest (TokenKind.Number n s) =
    IsIntegerConstant own n s × IsLongestRun is_ascii_digit is_word_byte own rest
SpellsToken p own rest (TokenKind.TextConstant w) =
    (body : List ℕ) × (own ≡ byte "\"" ∷ (body ++ byte "\"" ∷ [])) × SpellsText body w
SpellsToken p own rest t = ⊥

-- ---- all of the bytes

-- The tokens at the front of the bytes, which begin at this place and position. Then holds of what
-- comes after them.
abbrev pub Lexes : (Then : Place → Position → List ℕ → Type 0) → Place → Position → List ℕ
    → List Token → Type 0
Lexes Then p pos bytes [] = Past p (Then p) pos bytes
Lexes Then p pos bytes (t ∷ ts) =
    Past p (λ here z.
    (own : List ℕ) × (rest : List ℕ) × (z ≡ own ++ rest) × SpellsToken p own rest t.kind
    × (t.start ≡ here.at) × (t.stop ≡ here.at + length own) × (t.line ≡ here.line)
    × Lexes Then (place_after p t.kind) (position_after here own) rest ts) pos bytes
