-- Which texts last when a run has ended: those that it made last if something keeps them.
use Rattle.std.specs.Prelude.{◌≡◌, ◌≤◌, ℕ, List, length, take}
use Rattle.std.specs.List.{All}
use Rattle.numbered.specs.Texts.{Keeps}
use Rattle.numbered.specs.declared.word.Word.{Word}
use Rattle.dif_machine.specs.Frames.{start}
use Rattle.dif_machine.specs.Machine.{IsWithin, Seen}

-- this many texts last: as many as before or more, and those of the words are among them
pub record LastsWith (texts : List (List ℕ)) (before : ℕ) (words : List Word) (lasting : ℕ)
    : Type 0 where
  pub least : before ≤ lasting
  pub most : lasting ≤ length texts
  pub within : All (IsWithin (take lasting texts)) words

-- texts that last may be more, and are among all
pub record Lasts (m n : Seen) : Type 0 where
  pub more : Keeps m.lasting n.lasting
  pub among : Keeps n.lasting n.texts

-- before the first instruction, all texts last
abbrev pub restarted : Seen → Seen
restarted m = record { texts = m.texts; lasting = m.texts; frame = start; known = m.known }

-- after the last one, no other texts are left
pub record Rests (m n : Seen) : Type 0 where
  pub all : n.texts ≡ n.lasting
  pub more : Keeps m.lasting n.lasting
  pub among : Keeps n.lasting m.texts
  pub known : n.known ≡ m.known

-- in a run, the texts that last are those of a memory
pub record IsRunning {M : Type 0} (is_over : M → List (List ℕ) → Type 0) (memory : M) (m : Seen)
    : Type 0 where
  pub over : is_over memory m.lasting
  pub among : Keeps m.lasting m.texts
