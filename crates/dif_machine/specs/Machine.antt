-- What a machine holds in memory: words, of which those of texts are numbers.
use Rattle.std.specs.Prelude.{◌≡◌, ◌<◌, ◌≤◌, ◌^◌, ℕ, List, [], ◌∷◌, length, take, map}
use Rattle.std.specs.Prelude.{Option, None, Some, IfSome, option_map, slice_get, Result, Ok, Err}
use Rattle.std.specs.List.{All}
use Rattle.numbered.specs.declared.word.Word.{Word}
use Rattle.numbered.specs.declared.word.Word.TheVariants as word
pub use Rattle.numbered.specs.Words.{key_in, value_of}
use Rattle.numbered.specs.Texts.{AreDistinct, text_at}
use Rattle.dif_machine.specs.declared.content.Content.{Content}
use Rattle.dif_machine.specs.declared.content.Content.TheVariants as content
use Rattle.dif_machine.specs.Vocabulary.{Comparison, Firing, Value, Int, Text}
use Rattle.dif_machine.specs.Frames.{Frame}

-- what contracts see of a machine: the texts that it has numbered, those of them that last when a
-- run has ended, its frame, and those of a firing's five texts that it has found
pub record Seen : Type 0 where
  pub texts : List (List ℕ)
  pub lasting : List (List ℕ)
  pub frame : Frame
  pub known : List (Option (List ℕ))

-- it fits, or its number is one that a text has
abbrev pub IsWithin : List (List ℕ) → Word → Type 0
IsWithin texts (word.Int n) = n < 2 ^ 64
IsWithin texts (word.Text number) = number < length texts

abbrev pub IsContentWithin : List (List ℕ) → Content → Type 0
IsContentWithin texts content.Unset = Unit {0}
IsContentWithin texts (content.Int n) = n < 2 ^ 64
IsContentWithin texts (content.Text number) = number < length texts

-- what a register holds
abbrev pub content_of : List (List ℕ) → Content → Option Value
content_of texts content.Unset = None
content_of texts (content.Int n) = Some (Int n)
content_of texts (content.Text number) = Some (Text (text_at texts number))

abbrev pub contents : List (List ℕ) → List Content → List (Option Value)
contents texts registers = map (content_of texts) registers

-- a word stands for a value
pub record IsWordOf (texts : List (List ℕ)) (w : Word) (value : Value) : Type 0 where
  pub is : value_of texts w ≡ value
  pub within : IsWithin texts w

-- the texts of a firing that have these numbers
abbrev pub found_of : List (List ℕ) → List (Option ℕ) → List (Option (List ℕ))
found_of texts numbers = map (option_map (text_at texts)) numbers

abbrev pub texts_of : Firing → List (List ℕ)
texts_of f = f.execname ∷ f.provider ∷ f.probemod ∷ f.probefunc ∷ f.name ∷ []

-- those that were found are the firing's
abbrev pub Knows : Firing → List (Option (List ℕ)) → Type 0
Knows f known = (index : ℕ) (bytes : List ℕ) → slice_get known index ≡ Some (Some bytes)
    → text_at (texts_of f) index ≡ bytes

abbrev pub knows_nothing : List (Option (List ℕ))
knows_nothing = None ∷ None ∷ None ∷ None ∷ None ∷ []

-- what a machine shows that holds this
abbrev pub seen_of : List (List ℕ) → ℕ → List Content → Option Comparison → List Word
    → List (Option ℕ) → Seen
seen_of texts lasting registers comparison tuple numbers = record {
  texts = texts;
  lasting = take lasting texts;
  frame = record {
    pc = 0;
    registers = contents texts registers;
    comparison = comparison;
    tuple = key_in texts tuple;
  };
  known = found_of (take lasting texts) numbers;
}

abbrev pub AreNumbers : List (List ℕ) → List (Option ℕ) → Type 0
AreNumbers texts numbers = All (λ found. IfSome found (λ n. n < length texts)) numbers

-- each number in the machine is that of a text, and each that was found that of a text that lasts
pub record IsSound (texts : List (List ℕ)) (lasting : ℕ) (cells : List Content)
    (words : List Word) (found : List (Option ℕ)) : Type 0 where
  pub distinct : AreDistinct texts
  pub inside : lasting ≤ length texts
  pub registers : All (IsContentWithin texts) cells
  pub tuple : All (IsWithin texts) words
  pub numbers : AreNumbers (take lasting texts) found

-- the result of a run over words
abbrev pub word_result : {E : Type 0} → List (List ℕ) → Result Word E → Result Value E
word_result texts (Ok w) = Ok (value_of texts w)
word_result texts (Err e) = Err e
