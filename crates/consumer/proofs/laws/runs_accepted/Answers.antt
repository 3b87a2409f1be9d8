use Rattle.consumer.proofs.CommandLine.{runs}
use Rattle.consumer.proofs.laws.runs_accepted.Goals as goal

pub returns : goal.returns
returns c = runs
