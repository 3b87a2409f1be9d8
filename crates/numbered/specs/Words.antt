-- Values as words.
use Rattle.std.specs.Prelude.{ℕ, List, map}
use Rattle.d_values.specs.Keys.{part_of}
use Rattle.d_values.specs.declared.key.KeyPart.{KeyPart}
use Rattle.d_values.specs.declared.value.Kind.{Kind}
use Rattle.d_values.specs.declared.value.Value.{Value}
use Rattle.d_values.specs.declared.value.Value.TheVariants as value
use Rattle.numbered.specs.declared.word.Word.{Word}
use Rattle.numbered.specs.declared.word.Word.TheVariants.{Int, Text}
use Rattle.numbered.specs.Texts.{text_at}

abbrev pub word_of : Kind → ℕ → Word
word_of Kind.Number bits = Int bits
word_of Kind.Text bits = Text bits

abbrev pub bits_of : Word → ℕ
bits_of (Int n) = n
bits_of (Text number) = number

-- the value of a word
abbrev pub value_of : List (List ℕ) → Word → Value
value_of texts (Int n) = value.Int n
value_of texts (Text number) = value.Text (text_at texts number)

-- words as the parts of a key
abbrev pub key_in : List (List ℕ) → List Word → List KeyPart
key_in texts words = map (λ w. part_of (value_of texts w)) words
