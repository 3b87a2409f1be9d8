-- What was found of a firing's texts.
use Rattle.std.specs.Prelude.{◌≡◌, ◌<◌, ◌≤◌, ℕ, List, Option, Result, IfOk, length, take}
use Rattle.numbered.specs.Texts.{AreDistinct, Keeps, text_at}
use Rattle.dif_machine.specs.Vocabulary.{Firing}
use Rattle.dif_machine.specs.Machine.{AreNumbers, Knows, found_of, texts_of}

-- these are numbers of texts, and those of the firing's that were found
pub record AreFound (f : Firing) (texts : List (List ℕ)) (found : List (Option ℕ)) : Type 0 where
  pub known : Knows f (found_of texts found)
  pub numbers : AreNumbers texts found

-- of texts that last, some of the firing's were found
pub record HasFound (f : Firing) (texts : List (List ℕ)) (lasting : ℕ) (numbers : List (Option ℕ))
    : Type 0 where
  pub distinct : AreDistinct texts
  pub inside : lasting ≤ length texts
  pub found : AreFound f (take lasting texts) numbers

-- texts may be more, and so may those that last and those of the firing's that were found
pub record Finds (f : Firing) (old : List (List ℕ)) (before : ℕ) (texts : List (List ℕ))
    (lasting : ℕ) (numbers : List (Option ℕ)) : Type 0 where
  pub kept : Keeps old texts
  pub least : before ≤ lasting
  pub has : HasFound f texts lasting numbers

-- the number of the firing's text of this index was found, or memory was refused
pub record FindsText {E : Type 0} (f : Firing) (index : ℕ) (old : List (List ℕ)) (before : ℕ)
    (result : Result ℕ E) (texts : List (List ℕ)) (lasting : ℕ) (numbers : List (Option ℕ))
    : Type 0 where
  pub finds : Finds f old before texts lasting numbers
  pub number : IfOk result (λ n. text_at (texts_of f) index ≡ text_at texts n)
  pub within : IfOk result (λ n. n < length texts)
