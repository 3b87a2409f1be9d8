use Rattle.std.proofs.Common.{◌≡◌, map}
use Rattle.replay_core.specs.Vocabulary.{with_ends, grouping}
use Rattle.replay_core.specs.Beginnings.{AreBegun, least_exit}
use Rattle.replay_core.proofs.workers.until.watch_on.Given as goal

abbrev pub invariant-loop : goal.invariant-loop
invariant-loop g l = record {
  at : g.S.Source.is_at l.source l.seat;
  groups : map (λ p. p.0) l.pieces.items ≡ (g.S.Source.handed l.seat).numbers;
  pieces : AreBegun (g.L.Lanes.runs l.input.lanes.now) (g.S.Source.seen l.seat) (grouping l.input.groups.now) (with_ends l.input.trace.now l.input.trace.now) l.pieces.items;
  least : g.S.Source.lowered l.seat ≡ least_exit l.pieces.items;
}
