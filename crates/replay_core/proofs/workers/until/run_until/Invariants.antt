use Rattle.std.proofs.Common.{◌≡◌, ◌≤◌, None, take}
use Rattle.replay_core.specs.Vocabulary.{ScriptMeant, with_ends}
use Rattle.replay_core.specs.Beginnings.{exit_over}
use Rattle.replay_core.specs.Running.{IsLaneOf}
use Rattle.replay_core.specs.Selecting.{AreFor}
use Rattle.replay_core.specs.Steps.Working.{firings_at}
use Rattle.replay_core.proofs.workers.until.run_until.Given as goal

abbrev pub invariant-loop-index : goal.invariant-loop-index
invariant-loop-index g l = record {
  at : g.S.Source.is_at l.source l.seat;
  handed : g.S.Source.handed l.seat ≡ g.S.Source.handed l.fn.seat;
  seen : g.S.Source.seen l.seat ≤ g.S.Source.seen l.fn.seat;
  lowered : g.S.Source.lowered l.seat ≡ g.S.Source.lowered l.fn.seat;
  script : (m : ScriptMeant) → g.E.Engine.runs l.fn.lane m → AreFor l.input.trace.now l.input.selections.now m → g.E.Engine.runs l.lane m;
  none : (m : ScriptMeant) → g.E.Engine.runs l.fn.lane m → AreFor l.input.trace.now l.input.selections.now m → exit_over m (firings_at (with_ends l.input.trace.now l.input.trace.now) (take l.index-index l.fn.indices)) ≡ None;
  run : (m : ScriptMeant) → g.E.Engine.runs l.fn.lane m → AreFor l.input.trace.now l.input.selections.now m → IsLaneOf m (firings_at (with_ends l.input.trace.now l.input.trace.now) (take l.index-index l.fn.indices)) (g.E.Engine.seen l.lane);
}
