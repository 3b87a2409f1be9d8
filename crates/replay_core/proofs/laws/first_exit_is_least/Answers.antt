use Rattle.replay_core.proofs.LeastExit.{least_exit}
use Rattle.replay_core.proofs.laws.first_exit_is_least.Goals as goal

pub returns : goal.returns
returns c = least_exit
