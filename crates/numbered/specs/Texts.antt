-- Texts with numbers: that of a text is its index in the list.
use Rattle.std.specs.Prelude.{◌≡◌, ◌<◌, ◌≤◌, ℕ, List, [], length, Some, slice_get}
use Rattle.std.specs.Prelude.{slice_index_or, Result, IfOk, OnErr}

-- the text of a number: the empty one past the last
abbrev pub text_at : List (List ℕ) → ℕ → List ℕ
text_at texts number = slice_index_or texts number []

abbrev pub IsNumberOf : List (List ℕ) → ℕ → List ℕ → Type 0
IsNumberOf texts number bytes = slice_get texts number ≡ Some bytes

-- no text has two numbers
abbrev pub AreDistinct : List (List ℕ) → Type 0
AreDistinct texts = (m n : ℕ) (bytes : List ℕ) → IsNumberOf texts m bytes
    → IsNumberOf texts n bytes → m ≡ n

-- each text that had a number has it still
pub record Keeps (old new : List (List ℕ)) : Type 0 where
  pub long : length old ≤ length new
  pub same : (number : ℕ) → number < length old → text_at new number ≡ text_at old number
  pub distinct : AreDistinct old → AreDistinct new

-- the bytes have this number, which a call gave them if they had none; or memory was refused
pub record Numbers {E : Type 0} (old : List (List ℕ)) (bytes : List ℕ) (result : Result ℕ E)
    (new : List (List ℕ)) : Type 0 where
  pub number : IfOk result (λ n. IsNumberOf new n bytes)
  pub kept : Keeps old new
  pub distinct : AreDistinct new
  pub err : OnErr result (new ≡ old)
