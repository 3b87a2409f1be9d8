-- Plans, and which thread is in which group of a plan.
use Rattle.std.specs.Prelude.{◌≡◌, List, map}
use Rattle.shard_queue.specs.{Groupings.IsDealt}
use Rattle.shard_queue.specs.Faults.{IsListed, IsListFault}
use Rattle.consumer.specs.Vocabulary.{Firing, Grouping, GroupFault, GroupPlan, Dealt, Lists, Plan}
use Rattle.consumer.specs.Vocabulary.{Dif}

-- four workers, sixteen groups and compiled code
pub record IsDefault (plan : Plan) : Type 0 where
  pub workers : plan.workers ≡ 4
  pub groups : plan.groups ≡ Dealt 16
  pub engine : plan.engine ≡ Dif

-- these are the plan's groups of a trace
abbrev pub IsGroupedBy : GroupPlan → List Firing → Grouping → Type 0
IsGroupedBy (Dealt n) trace grouping = IsDealt n trace grouping
IsGroupedBy (Lists lists) trace grouping = IsListed (map (λ v. v.items) lists.items) trace grouping

-- the plan's lists aren't groups of the trace, first for this reason
abbrev pub IsMisgrouped : GroupPlan → List Firing → GroupFault → Type 0
IsMisgrouped (Dealt n) trace fault = ⊥
IsMisgrouped (Lists lists) trace fault = IsListFault (map (λ v. v.items) lists.items) trace fault
