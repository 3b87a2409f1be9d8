-- Option lines, from left to right.
use Rattle.std.specs.Prelude.{◌≡◌, ℕ, Bool, false, if◌then◌else◌, ◌==◌}
use Rattle.std.specs.Prelude.{List, [], ◌∷◌, Option, Some, None, codes}
use Rattle.std.specs.List.{list_all}
use Rattle.d_lexer.specs.Bytes.{is_space}
pub use Rattle.d_lexer.specs.OptionLine.{is_trailing}

-- what is left after a word
unfoldable pub after_option_word : List ℕ → List ℕ → Option (List ℕ)
after_option_word [] bytes = Some bytes
after_option_word (w ∷ ws) [] = None
after_option_word (w ∷ ws) (b ∷ bytes) = if b == w then after_option_word ws bytes else None

-- what is left after any spaces
unfoldable pub skip_spaces : List ℕ → List ℕ
skip_spaces [] = []
skip_spaces (b ∷ bytes) = if is_space b then skip_spaces bytes else b ∷ bytes

-- what is left after one space at least
unfoldable pub after_spaces : List ℕ → Option (List ℕ)
after_spaces [] = None
after_spaces (b ∷ bytes) = if is_space b then Some (skip_spaces bytes) else None

-- nothing but spaces and carriage returns
abbrev pub is_trail : List ℕ → Bool
is_trail bytes = list_all is_trailing bytes

-- a search, and then another from there
abbrev pub found_then : Option (List ℕ) → (List ℕ → Option (List ℕ)) → Option (List ℕ)
found_then None k = None
found_then (Some z) k = k z

-- the search finds, and the line ends there
abbrev pub ends_line : Option (List ℕ) → Bool
ends_line None = false
ends_line (Some z) = is_trail z

-- what is left after spaces and a word
abbrev pub next_word : List ℕ → List ℕ → Option (List ℕ)
next_word w z = found_then (after_spaces z) (after_option_word w)

-- the words after #pragma
abbrev pub option_words : List (List ℕ)
option_words = codes "D" ∷ codes "option" ∷ codes "quiet" ∷ []

-- what is left after several words
abbrev pub after_option_words : List (List ℕ) → List ℕ → Option (List ℕ)
after_option_words [] z = Some z
after_option_words (w ∷ ws) z = found_then (next_word w z) (after_option_words ws)

-- the line is an option line
unfoldable pub is_option : List ℕ → Bool
is_option own =
    ends_line (found_then (after_option_word (codes "#pragma") own)
    (after_option_words option_words))

-- the bytes that a search finds
abbrev pub FindsBytes : {X : Type 0} → (X → List ℕ) → Option X → Option (List ℕ) → Type 0
FindsBytes view None o = o ≡ None
FindsBytes view (Some x) o = o ≡ Some (view x)
