-- What is written of a recording: a trace.
use Rattle.std.specs.Prelude.{ℕ, List, Option}
use Rattle.std.specs.Io.KnownBytes.{Appends}
use Rattle.firings.specs.declared.firing.Firing.{Firing}
use Rattle.firing_reader.specs.Written.{WritesTrace}

-- a writer took a trace, and nothing else
abbrev pub WritesOneTrace : Option (List ℕ) → Option (List ℕ) → Type 0
WritesOneTrace old new =
    (bytes : List ℕ) × Appends old new bytes × (fs : List Firing) × WritesTrace bytes fs
