-- What a pass over the code finds.
use Rattle.std.specs.Prelude.{◌≡◌, Some, Result, Ok, Err}
use Rattle.dif_validate.specs.Vocabulary.{DifFault, Kind, Object}
use Rattle.dif_validate.specs.Returns.{return_kind}
use Rattle.dif_validate.specs.Validity.{IsValid, IsInvalid}

-- what a pass over the code finds
abbrev pub Finds : Object → Result Kind DifFault → Type 0
Finds o (Ok kind) = IsValid o × (return_kind o ≡ Some kind)
Finds o (Err fault) = IsInvalid o fault
