use Rattle.shard_queue.proofs.Lists.{all_push}
use Rattle.replay_core.specs.Vocabulary.{grouping}
use Rattle.replay_core.specs.Seen.{IsRoomy}
use Rattle.replay_core.specs.Working.{IsOfGroup, firings_in}
use Rattle.replay_core.proofs.WorkSteps.{groups_more}
use Rattle.replay_core.proofs.workers.worker.work_on.Goals as goal

pub loop-preserved : goal.loop-preserved
loop-preserved g c =
    let i = c.loop.invariant in
    let w = c.args.input.now in
    let added = c.in-Ok.ensures in
    let taken = c.in-Some-take.ensures in
    record {
      at = taken.seat;
      groups = groups_more _ _ _ _ _ added.pushed i.groups taken.next.some.2;
      pieces = record {
        each = λ m runs. all_push (IsOfGroup m (grouping w.groups.now) (firings_in c.args.span w.trace.now)) _ _ _ (i.pieces.each m runs) (added.is.0 m runs) added.pushed;
        roomy = all_push (λ p. IsRoomy p.1) _ _ _ i.pieces.roomy added.is.1 added.pushed;
      };
    }
