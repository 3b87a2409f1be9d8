-- Variables in tables of words: each cell's key has the thread, the variable with the kinds of the
-- words of its key, and these words.
use Rattle.std.specs.Prelude.{◌==◌, ◌≡◌, ◌+◌, ◌*◌, ◌^◌, ℕ, ℤ, Bool, ◌&&◌, List, [], ◌∷◌}
use Rattle.std.specs.Prelude.{length, map, Some}
use Rattle.std.specs.Prelude.{if◌then◌else◌, nat_lt, slice_get, slice_index_or}
use Rattle.std.specs.List.{All, position_or_len}
use Rattle.std.specs.Ordering.{int_eq}
use Rattle.d_values.specs.Texts.{same_text}
use Rattle.d_values.specs.Variables.{variable_number}
use Rattle.numbered.specs.Shapes.{shape_of}
use Rattle.numbered.specs.Tables.{Entries, key_of, word_in}
use Rattle.numbered.specs.Words.{word_of}
use Rattle.numbered.specs.declared.word.Word.{Word}
use Rattle.numbered.specs.declared.word.Word.TheVariants as word
use Rattle.dif_machine.specs.Vocabulary.{cast_signed, cast_unsigned, w64, KeyPart, Number, Name}
use Rattle.dif_machine.specs.Vocabulary.{Value, Var}
use Rattle.dif_machine.specs.Machine.{IsWithin, value_of}

-- a number for each variable and the kinds of the words of its key
abbrev pub cell_of : Var → List Word → ℕ
cell_of x words = 512 * variable_number x + shape_of words

-- the key of a cell
abbrev pub cell_key : ℕ → Var → List Word → List ℕ
cell_key thread x words = key_of thread (cell_of x words) words

-- an integer that a word can stand for
abbrev pub is_of_word : ℤ → Bool
is_of_word z =
    int_eq (cast_signed w64 (cast_unsigned w64 z)) z && nat_lt (cast_unsigned w64 z) (2 ^ 64)

-- the word of a part of a key; if it has none, a number that no text has
abbrev pub word_of_part : List (List ℕ) → KeyPart → Word
word_of_part texts (Number z) =
    if is_of_word z then word.Int (cast_unsigned w64 z) else word.Text (length texts)
word_of_part texts (Name bytes) = word.Text (position_or_len (same_text bytes) texts)

abbrev pub words_of : List (List ℕ) → List KeyPart → List Word
words_of texts key = map (word_of_part texts) key

-- what a thread's variables hold
abbrev pub own_in : List (List ℕ) → Entries → ℕ → Var → List KeyPart → Value
own_in texts table thread x key =
    value_of texts (word_of x.kind (word_in table (cell_key thread x (words_of texts key))))

-- the numbers of a table are those of texts, and the empty text has the number 0
pub record IsTableOver (texts : List (List ℕ)) (table : Entries) : Type 0 where
  pub empty : slice_get texts 0 ≡ Some []
  pub keys : (thread : ℕ) (x : Var) (words : List Word) → (All (IsWithin texts) words → ⊥)
      → word_in table (cell_key thread x words) ≡ 0
  pub values : (thread : ℕ) (x : Var) (words : List Word)
      → IsWithin texts (word_of x.kind (word_in table (cell_key thread x words)))

-- what the variables of a clause hold, each at its number
abbrev pub locals_in : List (List ℕ) → List ℕ → Var → Value
locals_in texts locals x =
    value_of texts (word_of x.kind (slice_index_or locals (variable_number x) 0))

abbrev pub AreLocalsOver : List (List ℕ) → List ℕ → Type 0
AreLocalsOver texts locals =
    (x : Var) → IsWithin texts (word_of x.kind (slice_index_or locals (variable_number x) 0))

-- ---- the other threads

-- the words of the cells of all threads but this one, and the thread itself if there is no key
abbrev pub words_beside : Entries → ℕ → List ℕ → ℕ
words_beside table thread [] = thread
words_beside table thread (other ∷ key) =
    if other == thread then 0 else word_in table (other ∷ key)
