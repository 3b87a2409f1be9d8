use Rattle.replay_core.proofs.RunUnites.{groups_unite}
use Rattle.replay_core.proofs.laws.groups_unite.Goals as goal

pub returns : goal.returns
returns c = groups_unite
