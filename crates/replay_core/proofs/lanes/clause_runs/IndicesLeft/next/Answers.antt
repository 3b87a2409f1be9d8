use Rattle.std.proofs.Common.{◌<◌}
use Rattle.shard_queue.proofs.Lists.{all_tail}
use Rattle.replay_core.specs.declared.selection.clause_indices.Repeat.{Repeat}
use Rattle.replay_core.proofs.lanes.clause_runs.IndicesLeft.next.Goals as goal

pub invariant_of-self-2 : goal.invariant_of-self-2
invariant_of-self-2 c = all_tail (λ (r : Repeat). 0 < r.times) c.self.inside.behind.now c.in_ok-first.first.now c.in_ok-first.behind.now c.self.invariant c.in_ok-first.ensures.cases.0
