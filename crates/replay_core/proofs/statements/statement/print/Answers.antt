use Rattle.std.proofs.Common.{map, refl, rules, subst}
use Rattle.d_types.specs.Printing.{printf_text}
use Rattle.replay_core.specs.Steps.Effects.{NotesEffect}
use Rattle.replay_core.specs.Evaluation.{variables_in}
use Rattle.replay_core.specs.Seen.{piece_seen}
use Rattle.d_types.specs.declared.effect.Effect.TheVariants as ef
use Rattle.replay_core.proofs.EffectLemmas.{says}
use Rattle.replay_core.proofs.StateLemmas.{number_stays, taken_still}
use Rattle.replay_core.proofs.statements.statement.print.Goals as goal

pub note_text-requires : goal.note_text-requires
note_text-requires g c =
    taken_still g.X.Store.Store.seen c.args.state.now c.evaluate_arguments.new.state c.args.piece.now c.args.piece.now c.in_ok-arguments.ensures.0 refl c.requires

pub returns-clause-effect : goal.returns-clause-effect
returns-clause-effect g c =
    let f = c.args.state.now.firing.now in
    let by = g.X.Expression.by f in
    let vars = variables_in g.X.Store.Store.seen c.args.state.now in
    let same = number_stays g.X.Store.Store.seen c.args.state.now c.evaluate_arguments.new.state c.in_ok-arguments.ensures.0 in
    let noted = subst (λ n. NotesEffect n (ef.Says c.in_ok-text.text) (piece_seen c.args.piece.now) (piece_seen c.note_text.new.self)) same c.in_ok-note_text.ensures.notes in (
      c.in_ok-arguments.ensures.0,
      says f.number (by.values (map g.X.Expression.returned c.args.arguments.now) c.args.arguments.now vars) (printf_text c.args.format.now) c.in_ok-arguments.arguments c.in_ok-text.text
          (piece_seen c.args.piece.now) (piece_seen c.note_text.new.self) (variables_in g.X.Store.Store.seen c.evaluate_arguments.new.state)
          c.in_ok-arguments.ensures.1 (search rules) noted,
    )
