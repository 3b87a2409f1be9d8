-- The first fault of a script: what is wrong, and on which line.
-- Source: Dynamic Tracing Guide, "D Program Structure".
use Rattle.std.specs.Prelude.{◌≡◌, ℕ, ◌⊎◌, Bool, true, false, ◌||◌, ◌==◌, Some, None, List, []}
use Rattle.std.specs.Prelude.{◌∷◌, ◌++◌, codes}
use Rattle.d_lexer.specs.Vocabulary.{is_ascii_digit, Mark, Suffix, Place, Head, Position, Flaw}
use Rattle.d_lexer.specs.Vocabulary.{LexFault}
use Rattle.d_lexer.specs.declared.fault.Flaw.TheVariants as flaw
use Rattle.d_lexer.specs.declared.fault.LexFault.TheVariants as faults
use Rattle.std.specs.Str.{byte}
use Rattle.d_lexer.specs.Bytes.{is_blank_byte}
use Rattle.d_lexer.specs.Bytes.{is_word_start, is_word_byte, is_run_byte, is_inside, begins_comment}
use Rattle.d_lexer.specs.Bytes.{escape_of}
use Rattle.d_lexer.specs.{Numbers.IsIntegerConstant, OptionLine.IsOptionLine, Marks.mark_of}
use Rattle.d_lexer.specs.Places.{is_head, is_first, is_hash}
use Rattle.d_lexer.specs.Tokens.{Fills, HasNoEnd, IsLongestRun, SpellsText}

-- a byte with which a run of the head begins, or elsewhere a word, a number, a name or a text
-- constant
abbrev pub begins : Place → ℕ → Bool
begins Head b = is_run_byte b
begins p b = is_word_start b || is_ascii_digit b || b == byte "@" || b == byte "\""

-- nothing begins with the byte at the front
pub record IsStray (p : Place) (pos : Position) (b : ℕ) (z : List ℕ) : Type 0 where
  pub no_blank : is_blank_byte b ≡ false
  pub no_comment : begins_comment (b ∷ z) ≡ false
  pub no_first : is_first pos b z ≡ false
  pub no_hash : is_hash p pos b ≡ false
  pub no_token : begins p b ≡ false
  pub no_mark : (own rest : List ℕ) (k : Mark) → mark_of p own ≡ Some k
      → (b ∷ z) ≡ own ++ rest → ⊥

-- what is wrong after good bytes of a text constant
abbrev pub StopsText : Flaw → List ℕ → Type 0
StopsText Flaw.BadByte rest = (z : List ℕ) × (rest ≡ 0 ∷ z)
StopsText Flaw.Unclosed rest =
    (rest ≡ []) ⊎ ((z : List ℕ) × (rest ≡ byte "\n" ∷ z)) ⊎ (rest ≡ byte "\\" ∷ [])
StopsText Flaw.Escape rest =
    (e : ℕ) × (z : List ℕ) × (rest ≡ byte "\\" ∷ (e ∷ z)) × (escape_of e ≡ None)
StopsText g rest = ⊥

-- the fault at the front of the bytes
pub data IsFrontFault (p : Place) (pos : Position) : List ℕ → Flaw → Type 0 where
  stray : {bytes : List ℕ} (b : ℕ) (z : List ℕ) → bytes ≡ b ∷ z → IsStray p pos b z
      → IsFrontFault p pos bytes Flaw.BadByte
  open_comment : {bytes : List ℕ} (z : List ℕ) → bytes ≡ codes "/*" ++ z → HasNoEnd z
      → IsFrontFault p pos bytes Flaw.Unclosed
  text : {bytes : List ℕ} {g : Flaw} (body w rest : List ℕ) → is_head p ≡ false
      → bytes ≡ byte "\"" ∷ (body ++ rest) → SpellsText body w → StopsText g rest
      → IsFrontFault p pos bytes g
  number : {bytes : List ℕ} (own rest : List ℕ) → is_head p ≡ false → bytes ≡ own ++ rest
      → IsLongestRun is_ascii_digit is_word_byte own rest
      → ((n : ℕ) (s : Suffix) → ¬ IsIntegerConstant own n s)
      → IsFrontFault p pos bytes Flaw.Constant
  other_option : {bytes : List ℕ} (w rest : List ℕ) → bytes ≡ byte "#" ∷ (w ++ rest)
      → is_first pos (byte "#") (w ++ rest) ≡ false → is_hash p pos (byte "#") ≡ true
      → (¬ IsOptionLine (byte "#" ∷ w)) → Fills is_inside w rest
      → IsFrontFault p pos bytes Flaw.OptionLine

-- ---- the first

-- what is wrong, with its line
abbrev pub on_line : Flaw → ℕ → LexFault
on_line flaw.BadByte line = faults.BadByte line
on_line flaw.Unclosed line = faults.Unclosed line
on_line flaw.Constant line = faults.Constant line
on_line flaw.Escape line = faults.Escape line
on_line flaw.OptionLine line = faults.OptionLine line

-- the fault, which is on the line of the front
abbrev pub IsFault : LexFault → Place → Position → List ℕ → Type 0
IsFault fault p pos bytes = (g : Flaw) × IsFrontFault p pos bytes g × (fault ≡ on_line g pos.line)
