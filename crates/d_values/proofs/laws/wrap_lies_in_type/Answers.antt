use Rattle.d_values.proofs.Lawful.{wrapped}
use Rattle.d_values.proofs.laws.wrap_lies_in_type.Goals as goal

pub returns : goal.returns
returns c t z = wrapped t z
