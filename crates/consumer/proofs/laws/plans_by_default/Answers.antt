use Rattle.consumer.proofs.CommandLine.{defaults}
use Rattle.consumer.proofs.laws.plans_by_default.Goals as goal

pub returns : goal.returns
returns c = defaults
