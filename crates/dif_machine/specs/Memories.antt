-- What calls on a memory, and runs over one, need and leave.
use Rattle.std.specs.Prelude.{◌≡◌, ℕ, List, Result, IfOk, OnErr, OnOk}
use Rattle.std.specs.List.{All}
use Rattle.numbered.specs.Texts.{AreDistinct, Keeps}
use Rattle.numbered.specs.declared.word.Word.{Word}
use Rattle.dif_machine.specs.Machine.{IsWithin, IsWordOf, Knows, Seen, word_result}
use Rattle.dif_machine.specs.Runs.{RunEnds}
use Rattle.dif_machine.specs.Vocabulary.{Firing, MachineFault, Object, Value, Variables}

-- a word of this value was loaded from a memory, which stays as it was, or memory was refused;
-- texts may be more
pub record LoadsWord {M E : Type 0} (old : M) (texts : List (List ℕ)) (new : M)
    (more : List (List ℕ)) (result : Result Word E) (value : Value) : Type 0 where
  pub kept : Keeps texts more
  pub same : new ≡ old
  pub word : IfOk result (λ word. IsWordOf more word value)

-- a memory whose numbers are those of texts that have these words, too, still is so
abbrev pub StaysOver : {M : Type 0} → (M → List (List ℕ) → Type 0) → M → List Word → M → Type 0
StaysOver is_over old words new = (texts : List (List ℕ)) → AreDistinct texts
    → is_over old texts → All (IsWithin texts) words → is_over new texts

-- a memory now holds these variables, or memory was refused and it holds what it did
pub record StoresWord {M X E : Type 0} (holds : M → List (List ℕ) → Variables)
    (others : M → List ℕ → ℕ) (old : M) (texts : List (List ℕ)) (new : M) (result : Result X E)
    (vars : Variables) : Type 0 where
  pub ok : OnOk result (holds new texts ≡ vars)
  pub err : OnErr result (holds new texts ≡ holds old texts)
  pub beside : others new ≡ others old

-- what a machine found is of the firing, and its texts are those of a memory
pub record IsReady {M : Type 0} (is_over : M → List (List ℕ) → Type 0) (f : Firing) (memory : M)
    (m : Seen) : Type 0 where
  pub known : Knows f m.known
  pub over : is_over memory m.texts

-- an object ran over a machine and a memory, and left them ready, with a word of the texts; texts
-- may be more, and what the memory has beside stays
pub record RunsOver {M : Type 0} (holds : M → List (List ℕ) → Variables)
    (is_over : M → List (List ℕ) → Type 0) (others : M → List ℕ → ℕ) (o : Object) (f : Firing)
    (old : M) (m : Seen) (result : Result Word MachineFault) (new : M) (n : Seen) : Type 0 where
  pub ends : RunEnds o f (holds old m.texts) (word_result n.texts result) (holds new n.texts)
  pub within : IfOk result (IsWithin n.texts)
  pub kept : Keeps m.texts n.texts
  pub ready : IsReady is_over f new n
  pub beside : others new ≡ others old
