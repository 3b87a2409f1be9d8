-- What contracts see of variables as words.
use Rattle.std.specs.Prelude.{◌≡◌, List, ℕ, ℤ, Bool, Option, true, if◌then◌else◌}
use Rattle.std.specs.Int.{cast_signed, cast_unsigned, w64}
use Rattle.std.specs.Ordering.{int_eq}
use Rattle.numbered.specs.Tables.{Entries}
use Rattle.dif_machine.specs.Cells.{AreLocalsOver, IsTableOver, locals_in, own_in}
use Rattle.replay_core.specs.Vocabulary.{KeyPart, Value, Var, blank}
use Rattle.replay_core.specs.{Meaning.blank_threads, Threads.StoreSeen}

-- the texts that have numbers, those that are known of a firing, the words of variables, and the
-- thread that is looked at: its number and itself
pub record WordsSeen : Type 0 where
  pub texts : List (List ℕ)
  pub known : List (Option (List ℕ))
  pub locals : List ℕ
  pub table : Entries
  pub thread : ℕ
  pub at : ℤ

-- the word of a thread, which tells it from each other thread
abbrev pub word_of_thread : ℤ → ℕ
word_of_thread thread = cast_unsigned w64 thread

abbrev pub is_thread : ℤ → Bool
is_thread thread = int_eq (cast_signed w64 (word_of_thread thread)) thread

-- what a thread keeps in a table of words
abbrev pub own_at : List (List ℕ) → Entries → ℤ → Var → List KeyPart → Value
own_at texts table thread x key =
    if is_thread thread then own_in texts table (word_of_thread thread) x key else blank x.kind

abbrev pub words_seen : WordsSeen → StoreSeen
words_seen w = record {
  at = w.at;
  present = record { locals = locals_in w.texts w.locals; own = own_in w.texts w.table w.thread };
  others = λ thread.
      if int_eq thread w.at then blank_threads thread else own_at w.texts w.table thread;
}

-- all numbers are those of texts, and the thread's word is its own
pub record AreSound (w : WordsSeen) : Type 0 where
  pub over : IsTableOver w.texts w.table × AreLocalsOver w.texts w.locals
  pub is : w.thread ≡ word_of_thread w.at
  pub fits : is_thread w.at ≡ true
