-- Which bytes write a trace.
-- Source: RFC 4180, section 2, with the reading of the crate `csv`.
use Rattle.std.specs.Prelude.{◌≡◌, ◌∷◌, ℕ, List, length, true}
use Rattle.firing_reader.specs.Vocabulary.{AllZip, default_config, records, strip_bom}
use Rattle.firings.specs.declared.firing.Firing.{Firing}
use Rattle.firing_reader.specs.Faults.{IsRowOf}
use Rattle.firings.specs.Firings.{IsTrace}
use Rattle.firing_reader.specs.Trace.{is_header}

-- a row of twenty columns, of which each writes its value of the firing
pub record WritesFiring (fields : List (List ℕ)) (f : Firing) : Type 0 where
  pub columns : length fields ≡ 20
  pub values : IsRowOf fields f

-- a header, and after it a row for each firing of a trace, in order
pub record WritesTrace (bytes : List ℕ) (fs : List Firing) : Type 0 where
  pub header : List (List ℕ)
  pub rows : List (List (List ℕ))
  pub has : records default_config (strip_bom bytes) ≡ header ∷ rows
  pub named : is_header header ≡ true
  pub each : AllZip WritesFiring rows fs
  pub trace : IsTrace fs
