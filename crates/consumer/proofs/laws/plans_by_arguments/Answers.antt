use Rattle.consumer.proofs.CommandLine.{plans_named}
use Rattle.consumer.proofs.laws.plans_by_arguments.Goals as goal

pub returns : goal.returns
returns c = plans_named
