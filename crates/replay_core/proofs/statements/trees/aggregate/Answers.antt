use Rattle.std.proofs.Common.{◌≡◌, ◌∷◌, ◌++◌, [], FitsSigned, w64, rules, subst}
use Rattle.std.proofs.lemmas.Int.{to_z-of_z}
use Rattle.aggregations.specs.Table.{contribution}
use Rattle.replay_core.specs.Vocabulary.{StandsFor, argument_by, Has}
use Rattle.replay_core.specs.Evaluation.{variables_in}
use Rattle.replay_core.specs.Forms.{by_expressions}
use Rattle.replay_core.specs.Threads.{tables_seen}
use Rattle.replay_core.specs.Seen.{piece_seen}
use Rattle.replay_core.proofs.EffectLemmas.{adds}
use Rattle.replay_core.proofs.StateLemmas.{stays_then}
use Rattle.replay_core.proofs.statements.trees.aggregate.Goals as goal

pub returns-clause-effect : goal.returns-clause-effect
returns-clause-effect c =
    let f = c.args.state.now.firing.now in
    let by = by_expressions f in
    let vars = variables_in tables_seen c.args.state.now in
    let between = variables_in tables_seen c.evaluate_key.new.state in
    let after = variables_in tables_seen c.evaluate_argument.new.state in
    let fits : FitsSigned w64 c.in_ok-number.number = search rules in
    let given : argument_by by c.args.argument.now between ≡ Has c.in_ok-number.number after =
    subst (λ s. argument_by (by_expressions s.now) c.args.argument.now between ≡ Has c.in_ok-number.number after) c.in_ok-key.ensures.0.firing c.in_ok-number.ensures.1 in (
      stays_then tables_seen c.args.state.now c.evaluate_key.new.state c.evaluate_argument.new.state c.in_ok-key.ensures.0 c.in_ok-number.ensures.0,
      adds f.number c.args.index (by.key c.args.keys.now vars) (argument_by by c.args.argument.now) c.in_ok-key.key c.in_ok-number.number
          (piece_seen c.args.piece.now) c.add.new.self between after c.in_ok-key.ensures.1 given c.in_ok-add.ensures.functions
          (λ before stood. subst (λ y. StandsFor c.add.new.self (before ++ contribution c.args.index c.in_ok-key.key y ∷ [])) (to_z-of_z w64 c.in_ok-number.number fits) (c.in_ok-add.ensures.ok before stood)),
    )
