use Rattle.replay_core.proofs.Restricting.{group_restricts}
use Rattle.replay_core.proofs.laws.group_runs_as_in_the_run.Goals as goal

pub returns : goal.returns
returns c = group_restricts
