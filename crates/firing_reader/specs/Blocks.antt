-- A trace that comes in blocks: what a reader keeps of those that it took, and what the trace reads
-- as if it goes on after them.
use Rattle.std.specs.Prelude.{◌≡◌, ℕ, List, ◌∷◌, ◌++◌, Result, Ok, Err}
use Rattle.firing_reader.specs.declared.blocks.Stage.{Stage}
use Rattle.firing_reader.specs.declared.blocks.Stage.TheVariants.{Header, Rows, Refused}
use Rattle.firing_reader.specs.Vocabulary.{TraceFault}
use Rattle.firings.specs.declared.firing.Firing.{Firing}
use Rattle.firing_reader.specs.Plain.{rows_in}
use Rattle.firing_reader.specs.Trace.{rows_of, trace_of}

-- what is read next, the firings that were read, and the bytes that were not
pub record Taken : Type 0 where
  pub stage : Stage
  pub firings : List Firing
  pub left : List ℕ

abbrev pub reads_at : Stage → List Firing → List ℕ → Result (List Firing) TraceFault
reads_at Header firings bytes = trace_of bytes
reads_at Rows firings bytes = rows_in firings bytes
reads_at (Refused e) firings bytes = Err e

-- what the trace reads as if these bytes come after those that were taken
abbrev pub reads : Taken → List ℕ → Result (List Firing) TraceFault
reads t rest = reads_at t.stage t.firings (t.left ++ rest)

-- these firings are what some rows read as
abbrev pub AreRead : List Firing → Type 0
AreRead firings = (rows : List (List (List ℕ))) × (rows_of 1 0 rows ≡ Ok firings)

-- the bytes begin at a line feed
abbrev pub BeginsAtFeed : List ℕ → Type 0
BeginsAtFeed bytes = (after : List ℕ) × (bytes ≡ 10 ∷ after)
