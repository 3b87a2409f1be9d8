-- Arguments that end a plain row.
use Rattle.std.specs.Prelude.{◌≡◌, ℕ, pos, List, Some, replicate}
use Rattle.firing_reader.specs.Column.{signed_of}
use Rattle.firing_reader.specs.Steps.Plain.{Closes}

-- the bytes begin with this many fields that are the same and write 0, and then a line feed
abbrev pub EndsAlike : List ℕ → ℕ → List ℕ → Type 0
EndsAlike bytes count rest =
    (field : List ℕ) × (signed_of field ≡ Some (pos 0)) × Closes bytes (replicate count field) rest
