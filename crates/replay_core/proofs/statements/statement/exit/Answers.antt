use Rattle.std.proofs.Common.{◌%◌, Some, ap, ◌∙◌}
use Rattle.replay_core.specs.Vocabulary.{option_or, number_outcome}
use Rattle.replay_core.specs.Evaluation.{variables_in}
use Rattle.replay_core.specs.Seen.{piece_seen}
use Rattle.replay_core.proofs.EffectLemmas.{leaves}
use Rattle.replay_core.proofs.StateLemmas.{number_stays}
use Rattle.replay_core.proofs.statements.statement.exit.Goals as goal

pub returns-clause-effect : goal.returns-clause-effect
returns-clause-effect g c =
    let f = c.args.state.now.firing.now in
    let by = g.X.Expression.by f in
    let vars = variables_in g.X.Store.Store.seen c.args.state.now in
    let same = number_stays g.X.Store.Store.seen c.args.state.now c.evaluate_word.new.state c.in_ok-word.ensures.0 in
    let exits = c.or-piece.ensures ∙ ap (λ n. option_or c.args.piece.now.exit (Some (n, c.in_ok-word.word % 256))) same in (
      c.in_ok-word.ensures.0,
      leaves f.number (number_outcome (by.value c.args.e.now vars)) c.in_ok-word.word (piece_seen c.args.piece.now) c.or-piece.result
          (variables_in g.X.Store.Store.seen c.evaluate_word.new.state) c.in_ok-word.ensures.1 exits,
    )
