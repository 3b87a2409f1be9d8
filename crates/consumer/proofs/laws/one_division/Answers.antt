use Rattle.consumer.proofs.Divisions.{one_division}
use Rattle.consumer.proofs.laws.one_division.Goals as goal

pub returns : goal.returns
returns c = one_division
