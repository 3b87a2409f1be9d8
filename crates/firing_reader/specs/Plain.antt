-- Plain rows, which are read where they lie in a trace: their fields have no quote, comma or end of
-- a line in them.
-- Source: RFC 4180, section 2, with the reading of the crate `csv`.
use Rattle.std.specs.Prelude.{◌≡◌, ◌⊎◌, false, ◌<◌, ◌+◌, ◌≤◌, ℕ, List, [], ◌∷◌, ◌++◌, length}
use Rattle.std.specs.Prelude.{Some, codes, Result, Ok}
use Rattle.csv.specs.declared.parser.State.{State}
use Rattle.csv.specs.Machine.{after_end}
use Rattle.firings.specs.declared.unit.Owner.{Owner}
use Rattle.firings.specs.declared.unit.Probe.{Probe}
use Rattle.firing_reader.specs.Vocabulary.{bytes_eq, next_record, default_config, TraceFault}
use Rattle.firings.specs.declared.firing.Firing.{Firing}
use Rattle.firings.specs.declared.limits.TheConstants.{MAX_ROWS}
use Rattle.firing_reader.specs.{Left.left_in}
use Rattle.firing_reader.specs.Column.{Whole, value_of}
use Rattle.firings.specs.Texts.{text_of}
use Rattle.firings.specs.Firings.{last_number}
use Rattle.firing_reader.specs.Trace.{next_of, rows_of}
use Rattle.firing_reader.specs.Row.{◌>>=◌}

-- csv takes these fields off the bytes, whatever comes after them, and goes on if a field starts
abbrev pub Passes : List ℕ → List (List ℕ) → List ℕ → Type 0
Passes bytes fields rest = (before : List (List ℕ)) (tail : List ℕ) →
    next_record default_config State.StartField before [] (bytes ++ tail)
    ≡ next_record default_config State.StartField (before ++ fields) [] (rest ++ tail)

-- the columns 2 to 5: who fired, and the fields that write it
pub record ReadsOwner (bytes rest : List ℕ) (o : Owner) : Type 0 where
  pub x2 : List ℕ
  pub x3 : List ℕ
  pub x4 : List ℕ
  pub x5 : List ℕ
  pub passes : Passes bytes (x2 ∷ x3 ∷ x4 ∷ x5 ∷ []) rest
  pub is_cpu : value_of (Whole 0 0x7FFF_FFFF) x2 ≡ Some o.cpu
  pub is_thread : value_of (Whole 1 0x7FFF_FFFF) x3 ≡ Some o.thread
  pub is_pid : value_of (Whole 0 0x7FFF_FFFF) x4 ≡ Some o.pid
  pub is_execname : text_of x5 ≡ Some o.execname

-- the columns 7 to 10: a probe that isn't reserved, and the fields that write it
pub record ReadsProbe (bytes rest : List ℕ) (p : Probe) : Type 0 where
  pub x7 : List ℕ
  pub x8 : List ℕ
  pub x9 : List ℕ
  pub x10 : List ℕ
  pub passes : Passes bytes (x7 ∷ x8 ∷ x9 ∷ x10 ∷ []) rest
  pub is_provider : text_of x7 ≡ Some p.provider
  pub is_probemod : text_of x8 ≡ Some p.probemod
  pub is_probefunc : text_of x9 ≡ Some p.probefunc
  pub is_name : text_of x10 ≡ Some p.name
  pub unreserved : bytes_eq p.provider (codes "dtrace") ≡ false

-- a byte that ends a row: a line feed or a carriage return
abbrev pub IsEnd : ℕ → Type 0
IsEnd b = (b ≡ 10) ⊎ (b ≡ 13)

-- the bytes begin where a row ends
abbrev pub BeginsAtEnd : List ℕ → Type 0
BeginsAtEnd bytes = (end : ℕ) × (after : List ℕ) × (bytes ≡ end ∷ after) × IsEnd end

-- csv's state after the byte that ends a row
abbrev pub state_after : ℕ → State
state_after end = after_end default_config.terminator end

-- after a record the bytes hold this row, whatever comes after it; the rest begins at its end
pub record ReadsRow (bytes rest : List ℕ) (f : Firing) : Type 0 where
  pub fields : List (List ℕ)
  pub end : ℕ
  pub after : List ℕ
  pub is_rest : rest ≡ end ∷ after
  pub ends : IsEnd end
  pub read : (tail : List ℕ) → next_record default_config State.StartRecord [] [] (bytes ++ tail)
      ≡ Some (fields, state_after end, after ++ tail)
  pub firing : (row last : ℕ) → row ≤ MAX_ROWS → last < f.number
      → next_of row last fields ≡ Ok f

-- after a record the bytes hold the rows of these firings, whatever comes after them
unfoldable pub ReadsRows : List ℕ → List Firing → List ℕ → Type 0
ReadsRows bytes [] rest = bytes ≡ rest
ReadsRows bytes (f ∷ fs) rest = (mid : List ℕ) × ReadsRow bytes mid f × ReadsRows mid fs rest

-- firings that were read before, and what is read after them
abbrev pub with_front : List Firing → Result (List Firing) TraceFault
    → Result (List Firing) TraceFault
with_front front read = read >>= λ es. Ok (front ++ es)

-- firings that were read before, and the rows that are left
abbrev pub rows_after : List Firing → List (List (List ℕ)) → Result (List Firing) TraceFault
rows_after front rows = with_front front (rows_of (length front + 1) (last_number front) rows)

-- the rows of bytes after firings that were read before
abbrev pub rows_in : List Firing → List ℕ → Result (List Firing) TraceFault
rows_in front bytes = rows_after front (left_in State.StartRecord (Some bytes))
