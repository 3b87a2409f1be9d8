use Rattle.std.proofs.Common.{◌≡◌, map}
use Rattle.replay_core.specs.Vocabulary.{grouping}
use Rattle.replay_core.specs.Working.{AreOfGroups, firings_in}
use Rattle.replay_core.proofs.workers.worker.work_on.Given as goal

abbrev pub invariant-loop : goal.invariant-loop
invariant-loop g l = record {
  at : g.S.Source.is_at l.source l.seat;
  groups : map (λ p. p.0) l.pieces.items ≡ (g.S.Source.handed l.seat).numbers;
  pieces : AreOfGroups (g.L.Lanes.runs l.input.lanes.now) (grouping l.input.groups.now) (firings_in l.span l.input.trace.now) l.pieces.items;
}
