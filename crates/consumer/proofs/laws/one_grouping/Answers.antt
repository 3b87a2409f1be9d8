use Rattle.consumer.proofs.OnePlan.{not_both, one_grouping}
use Rattle.consumer.proofs.laws.one_grouping.Goals as goal

pub returns-clause-way : goal.returns-clause-way
returns-clause-way c = λ plan. one_grouping plan.groups

pub returns-clause-faultless : goal.returns-clause-faultless
returns-clause-faultless c = λ plan. not_both plan.groups
