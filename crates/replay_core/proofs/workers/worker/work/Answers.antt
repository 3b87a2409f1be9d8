use Rattle.std.proofs.Common.{subst, List, IfOk}
use Rattle.replay_core.specs.Vocabulary.{with_ends, Firing}
use Rattle.replay_core.specs.AtBoard.{GivesPieces, IsWorkOf}
use Rattle.replay_core.proofs.TraceRuns.{all_count}
use Rattle.replay_core.proofs.workers.worker.work.Goals as goal

pub returns : goal.returns
returns g c =
    let a = c.args in
    let run = with_ends a.trace.now a.trace.now in
    subst (λ (fs : List Firing). IfOk c.work_on.result (IsWorkOf (g.S.Source.is_at a.source.now) g.S.Source.handed (GivesPieces (g.L.Lanes.runs a.lanes.now) a.groups.now fs)))
    (all_count run) c.work_on.ensures
