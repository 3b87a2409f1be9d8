-- What the pass over the code knows before an instruction.
use Rattle.std.specs.Prelude.{◌≡◌, ◌≤◌, ◌<◌, ◌+◌, ℕ, List, length, Option, None, Result, Ok, Err}
use Rattle.std.specs.Prelude.{slice_index_or}
use Rattle.dif_validate.specs.Vocabulary.{DifFault, Kind, Object, Shape}
use Rattle.dif_validate.specs.Faults.{fault_at_index}
use Rattle.dif_validate.specs.Flow.{shape_at}
use Rattle.dif_validate.specs.Returns.{first_kind_before}
use Rattle.dif_validate.specs.Validity.{IsInvalid}

-- at each index ahead what the instructions so far make known there, and the kind that they return;
-- none has a fault
pub record Knows (o : Object) (pc : ℕ) (ways : List (Option Shape)) (kind : Option Kind)
    : Type 0 where
  pub long : length ways ≡ length o.code
  pub ahead : (k : ℕ) → pc ≤ k → k < length o.code
      → slice_index_or ways k None ≡ shape_at o.code pc k
  pub returned : kind ≡ first_kind_before o.code pc
  pub clean : (q : ℕ) → q < pc → fault_at_index o q ≡ None

-- one instruction more, or its fault
abbrev pub Advances : Object → ℕ → List (Option Shape) → Result (Option Kind) DifFault → Type 0
Advances o pc ways (Ok kind) = Knows o (pc + 1) ways kind
Advances o pc ways (Err fault) = IsInvalid o fault
