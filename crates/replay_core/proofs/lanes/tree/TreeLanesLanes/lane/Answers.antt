use Rattle.std.proofs.lemmas.Result.{IfOk-weaker}
use Rattle.replay_core.proofs.lanes.tree.TreeLanesLanes.lane.Goals as goal

pub returns-clause-script : goal.returns-clause-script
returns-clause-script c =
    IfOk-weaker c.boxed.result _ _ (λ l same m is. rw same (c.in_ok-tree_lane.ensures.script m is)) c.boxed.ensures
