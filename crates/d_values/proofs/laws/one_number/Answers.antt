use Rattle.d_values.proofs.Lawful.{one_number}
use Rattle.d_values.proofs.laws.one_number.Goals as goal

pub returns : goal.returns
returns c t z n is = one_number t z n is
