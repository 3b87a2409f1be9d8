-- The beginning of a trace whose rest comes in later blocks.
use Rattle.std.specs.Prelude.{◌≡◌, ◌⊎◌, ℕ, List, ◌++◌, Result, Err, MatchResult}
use Rattle.firing_reader.specs.Vocabulary.{TraceFault, Memory}
use Rattle.firings.specs.declared.firing.Firing.{Firing}
use Rattle.firing_reader.specs.Plain.{rows_in}
use Rattle.firing_reader.specs.Trace.{trace_of}
use Rattle.firing_reader.specs.Blocks.{AreRead, BeginsAtFeed}
use Rattle.firing_reader.specs.Pieces.{GoesOn}

-- the bytes hold the header and rows that read as these firings; the rest goes on after them
pub record Begins (bytes : List ℕ) (firings : List Firing) (rest : List ℕ) : Type 0 where
  pub feed : BeginsAtFeed rest
  pub are_read : AreRead firings
  pub goes_on : (tail : List ℕ) → trace_of (bytes ++ tail) ≡ rows_in firings (rest ++ tail)

-- memory was refused, or this is the fault of the bytes, whatever comes after them
abbrev pub IsFaultOf : TraceFault → (List ℕ → Result (List Firing) TraceFault) → Type 0
IsFaultOf e read = (e ≡ Memory) ⊎ ((tail : List ℕ) → read tail ≡ Err e)

-- rows were taken off the bytes after the old firings, or this is their fault
abbrev pub IsReadBy : Result (Unit {0}) TraceFault → List Firing → List ℕ → List Firing → List ℕ
    → Type 0
IsReadBy result old bytes new rest = MatchResult result (λ _. GoesOn old bytes new rest)
    (λ e. IsFaultOf e (λ tail. rows_in old (bytes ++ tail)))
