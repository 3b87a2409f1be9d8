use Rattle.dif_validate.proofs.AllWays.{reached_by_ways, known_by_ways}
use Rattle.dif_validate.proofs.laws.known_on_all_ways.Goals as goal

pub returns-clause-reached : goal.returns-clause-reached
returns-clause-reached c = reached_by_ways

pub returns-clause-known : goal.returns-clause-known
returns-clause-known c = known_by_ways
