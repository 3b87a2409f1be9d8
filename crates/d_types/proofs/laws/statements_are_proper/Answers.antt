use Rattle.d_types.proofs.Proper.{script_is_proper}
use Rattle.d_types.proofs.laws.statements_are_proper.Goals as goal

pub returns : goal.returns
returns c m h = script_is_proper m h
