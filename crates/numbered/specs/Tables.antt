-- Tables from keys of words to a word.
use Rattle.std.specs.Prelude.{◌≡◌, ℕ, Bool, List, ◌∷◌, map, Option, unwrap_or, nat_eq, Result}
use Rattle.std.specs.Prelude.{if◌then◌else◌}
use Rattle.std.specs.Cmp.Lexicographic.{pointwise}
use Rattle.std.specs.Map.{lookup}
use Rattle.d_values.specs.Outcomes.{AllOrNothing}
use Rattle.numbered.specs.Words.{bits_of}
use Rattle.numbered.specs.declared.word.Word.{Word}

-- the same words
abbrev pub same_words : List ℕ → List ℕ → Bool
same_words = pointwise nat_eq

-- two words, and those of a tuple
abbrev pub key_of : ℕ → ℕ → List Word → List ℕ
key_of first second words = first ∷ second ∷ map bits_of words

-- keys with their words
abbrev pub Entries : Type 0
Entries = List (List ℕ × ℕ)

abbrev pub entry_in : Entries → List ℕ → Option ℕ
entry_in entries key = lookup (same_words key) entries

-- the word of a key, 0 for one that has no entry
abbrev pub word_in : Entries → List ℕ → ℕ
word_in entries key = unwrap_or (entry_in entries key) 0

-- all as before, but at this key
abbrev pub with_word : (List ℕ → ℕ) → List ℕ → ℕ → List ℕ → ℕ
with_word old key word other = if same_words key other then word else old other

-- the key has this word, or memory was refused and each key has what it had
abbrev pub SetsWord : {X E : Type 0} → (old : Entries) → List ℕ → ℕ → Result X E
    → (new : Entries) → Type 0
SetsWord old key word result new = AllOrNothing result (word_in old) (word_in new)
    (word_in new ≡ with_word (word_in old) key word)
