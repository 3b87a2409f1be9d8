use Rattle.std.proofs.Common.{◌+◌, ◌≤◌, ◌++◌, List, filter, length, take}
use Rattle.replay_core.specs.Vocabulary.{ScriptMeant, Firing, with_ends}
use Rattle.replay_core.specs.Running.{IsLaneOf}
use Rattle.replay_core.specs.Selecting.{AreFor}
use Rattle.replay_core.specs.Working.{is_in}
use Rattle.replay_core.specs.Steps.Working.{firings_at}
use Rattle.replay_core.proofs.workers.worker.WorkerInput.run_block.Given as goal

abbrev pub invariant-loop-at : goal.invariant-loop-at
invariant-loop-at g l = record {
  script : (m : ScriptMeant) → g.E.Engine.runs l.fn.lane m → AreFor l.self.trace.now l.self.selections.now m → g.E.Engine.runs l.lane m;
  few : length (g.E.Engine.seen l.lane).piece.taken ≤ length (g.E.Engine.seen l.fn.lane).piece.taken + l.at;
  run : (m : ScriptMeant) (before : List Firing) → g.E.Engine.runs l.fn.lane m → AreFor l.self.trace.now l.self.selections.now m → IsLaneOf m before (g.E.Engine.seen l.fn.lane)
      → IsLaneOf m (before ++ filter (is_in l.span) (firings_at (with_ends l.self.trace.now l.self.trace.now) (take l.at l.fn.indices))) (g.E.Engine.seen l.lane);
}
