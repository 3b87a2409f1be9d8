-- How many groups a plan has.
use Rattle.std.specs.Prelude.{ℕ}
use Rattle.consumer.specs.declared.plan.GroupPlan.{GroupPlan}
use Rattle.consumer.specs.declared.plan.GroupPlan.TheVariants.{Dealt, Lists}

-- the groups that it deals; if it lists them there may be any number
abbrev pub dealt : GroupPlan → ℕ
dealt (Dealt n) = n
dealt (Lists lists) = 1
