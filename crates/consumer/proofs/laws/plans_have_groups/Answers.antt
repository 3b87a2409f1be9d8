use Rattle.consumer.proofs.Grouped.{are_grouped}
use Rattle.consumer.proofs.laws.plans_have_groups.Goals as goal

pub returns : goal.returns
returns c = are_grouped
