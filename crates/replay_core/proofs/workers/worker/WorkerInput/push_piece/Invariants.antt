use Rattle.std.proofs.Common.{◌≡◌, ◌++◌, List, ℕ, filter}
use Rattle.std.specs.Slice.Iter.{chunks_rest, chunks_size}
use Rattle.shard_queue.specs.Groups.{indices}
use Rattle.replay_core.specs.Vocabulary.{ScriptMeant, with_ends}
use Rattle.replay_core.specs.Running.{IsLaneOf}
use Rattle.replay_core.specs.Working.{is_in}
use Rattle.replay_core.specs.Steps.Working.{firings_at}
use Rattle.replay_core.proofs.workers.worker.WorkerInput.push_piece.Given as goal

abbrev pub invariant-loop-block : goal.invariant-loop-block
invariant-loop-block g l =
    (goal.iterator-loop-block g).can_next l.block-iterator
    × (goal.iterator-loop-block g).is_finite l.block-iterator
    × (done : List ℕ) × record {
      size : chunks_size l.block-iterator ≡ 16;
      parts : done ++ chunks_rest l.block-iterator ≡ indices l.self.groups.now l.group;
      script : (m : ScriptMeant) → g.L.Lanes.runs l.self.lanes.now m → g.L.Lane.Engine.runs l.lane m;
      run : (m : ScriptMeant) → g.L.Lanes.runs l.self.lanes.now m
          → IsLaneOf m (filter (is_in l.span) (firings_at (with_ends l.self.trace.now l.self.trace.now) done)) (g.L.Lane.Engine.seen l.lane);
    }
