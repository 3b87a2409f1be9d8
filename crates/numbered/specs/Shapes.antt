-- Which words are integers and which are texts, as one number.
use Rattle.std.specs.Prelude.{ℕ, ◌+◌, ◌*◌, List, [], ◌∷◌}
use Rattle.numbered.specs.declared.word.Word.{Word}
use Rattle.numbered.specs.declared.word.Word.TheVariants.{Int, Text}

-- tells an integer from a text
abbrev pub digit_of : Word → ℕ
digit_of (Int n) = 0
digit_of (Text n) = 1

-- a binary digit for each word, after the digits of a number
abbrev pub digits_after : ℕ → List Word → ℕ
digits_after n [] = n
digits_after n (w ∷ ws) = digits_after (2 * n + digit_of w) ws

-- a one, and a digit for each word
abbrev pub shape_of : List Word → ℕ
shape_of words = digits_after 1 words
