use Rattle.replay_core.proofs.WithoutExit.{script_goes, trace_goes}
use Rattle.replay_core.proofs.laws.without_exit.Goals as goal

pub returns-clause-script : goal.returns-clause-script
returns-clause-script c = script_goes

pub returns-clause-rows : goal.returns-clause-rows
returns-clause-rows c = trace_goes
