use Rattle.std.proofs.Common.{drop, map}
use Rattle.replay_core.specs.Effects.{HasMore}
use Rattle.replay_core.specs.Evaluation.{Stays, variables_in}
use Rattle.replay_core.specs.Seen.{piece_seen}
use Rattle.replay_core.specs.Steps.EffectRuns.{statements_by}
use Rattle.replay_core.proofs.EffectLemmas.{SoFar}
use Rattle.replay_core.proofs.statements.clause.run_statements.Given as goal

abbrev pub invariant-loop-statement : goal.invariant-loop-statement
invariant-loop-statement g l = record {
  more : HasMore l.statement-index l.fn.piece l.piece;
  stays : Stays g.X.Store.Store.seen l.fn.state l.state;
  so_far : SoFar l.fn.state.firing.now.number
      (statements_by (g.X.Expression.by l.fn.state.firing.now) (map g.S.Statement.form l.statements) (variables_in g.X.Store.Store.seen l.fn.state))
      (statements_by (g.X.Expression.by l.fn.state.firing.now) (map g.S.Statement.form (drop l.statement-index l.statements)) (variables_in g.X.Store.Store.seen l.state))
      (piece_seen l.fn.piece) (piece_seen l.piece) l.exits;
}
