use Rattle.std.proofs.Common.{◌≡◌, ◌∷◌, ◌++◌, [], false, length, map, take, Err, refl, rules, subst}
use Rattle.std.proofs.Common.{sym, ap, ◌∙◌}
use Rattle.replay_core.specs.Vocabulary.{number_outcome, fault_line}
use Rattle.replay_core.specs.Effects.{NotesRun}
use Rattle.replay_core.specs.Steps.EffectRuns.{run_result, statements_by, where_predicate}
use Rattle.replay_core.specs.Steps.EffectRuns.{where_true}
use Rattle.replay_core.specs.Evaluation.{Returns, variables_in}
use Rattle.replay_core.specs.Seen.{piece_seen}
use Rattle.replay_core.proofs.EffectLemmas.{predicate_faults}
use Rattle.replay_core.proofs.StateLemmas.{number_stays, taken_still}
use Rattle.replay_core.proofs.statements.clause.run_clause.Goals as goal

pub note_fault-requires : goal.note_fault-requires
note_fault-requires g c =
    taken_still g.X.Store.Store.seen c.args.state.now c.evaluate_word.new.state c.args.piece.now c.args.piece.now c.evaluate_word.ensures.0 refl c.requires.taken

pub returns-in-Err-DivideByZero-clause-run : goal.returns-in-Err-DivideByZero-clause-run
returns-in-Err-DivideByZero-clause-run g c =
    let f = c.args.state.now.firing.now in
    let by = g.X.Expression.by f in
    let rest = statements_by by (map g.S.Statement.form c.args.statements.now) in
    let vars = variables_in g.X.Store.Store.seen c.args.state.now in
    let after = variables_in g.X.Store.Store.seen c.evaluate_word.new.state in
    let line = fault_line f.number c.args.index in
    let predicate = c.in-Some.predicate in
    let faults = subst (λ r. Returns (number_outcome (by.value predicate vars)) r after)
    (c.in-Err-DivideByZero.is ∙ ap (λ e. Err e) c.in-Err-DivideByZero.field-0-is) c.evaluate_word.ensures.1 in
    let run = ap (λ p. run_result line (where_predicate by p rest vars)) c.in-Some.is
    ∙ ap (λ o. run_result line (where_true o rest)) faults in
    let noted = c.in_ok-note_fault-in-Err-DivideByZero.ensures in
    let same = number_stays g.X.Store.Store.seen c.args.state.now c.evaluate_word.new.state c.evaluate_word.ensures.0 in
    let before : c.len-texts.result ≡ length c.args.piece.now.events.items = search rules in
    subst (λ m. NotesRun f.number m (piece_seen c.args.piece.now) (piece_seen c.note_fault.new.self) after false) (sym run)
    (predicate_faults f.number line (piece_seen c.args.piece.now) (piece_seen c.note_fault.new.self) after
    (noted.texts ∙ ap (λ n. take c.len-texts.result c.args.piece.now.events.items ++ (n, fault_line n c.args.index) ∷ []) same
    ∙ ap (λ n. take n c.args.piece.now.events.items ++ (f.number, line) ∷ []) before) noted.kept.table noted.kept.taken noted.exit)
