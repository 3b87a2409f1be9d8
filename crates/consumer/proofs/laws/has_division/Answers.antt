use Rattle.consumer.proofs.Divisions.{division}
use Rattle.consumer.proofs.laws.has_division.Goals as goal

pub returns : goal.returns
returns c = division
