use Rattle.std.proofs.Common.{length, map, subst, sym, ap, ◌∙◌}
use Rattle.std.proofs.lemmas.List.{length-map}
use Rattle.std.proofs.lemmas.Result.{IfOk-weaker}
use Rattle.d_types.specs.Typed.{action_of}
use Rattle.replay_core.specs.Vocabulary.{fault_line, run_of, meant_of}
use Rattle.replay_core.specs.Bounds.{indices_among, indices_in}
use Rattle.replay_core.specs.Effects.{CanNote, HasMore, NotesRun}
use Rattle.replay_core.specs.Evaluation.{variables_in}
use Rattle.replay_core.specs.Threads.{tables_seen}
use Rattle.replay_core.specs.Forms.{by_expressions, statement_form}
use Rattle.replay_core.specs.Seen.{piece_seen}
use Rattle.replay_core.specs.Steps.EffectRuns.{ran_by}
use Rattle.replay_core.proofs.FormLemmas.{indices_same, run_same}
use Rattle.replay_core.proofs.lanes.clause.TypedClauseClause.run.Goals as goal

pub run_clause-requires : goal.run_clause-requires
run_clause-requires c =
    let statements = c.args.self.now.statements.items in
    let state = c.args.state.now in
    let piece = c.args.piece.now in
    subst (λ l. CanNote (indices_among (map statement_form l)) (length l) state piece) (sym c.deref.ensures.value)
    (subst (λ k. CanNote k (length statements) state piece) (sym (indices_same statements))
    (subst (λ n. CanNote (indices_in (meant_of c.args.self.now)) n state piece) (length-map statements action_of) c.requires))

pub returns-clause-more : goal.returns-clause-more
returns-clause-more c =
    subst (λ n. HasMore n c.args.piece.now c.run_clause.new.piece) (ap length c.deref.ensures.value ∙ sym (length-map c.args.self.now.statements.items action_of)) c.run_clause.ensures.more

pub returns-clause-run : goal.returns-clause-run
returns-clause-run c =
    let f = c.args.state.now.firing.now in
    let clause = c.args.self.now in
    let line = fault_line f.number c.args.index in
    let vars = variables_in tables_seen c.args.state.now in
    let same = ap (λ l. ran_by (by_expressions f) line clause.predicate (map statement_form l) vars) c.deref.ensures.value
    ∙ run_same f line clause.predicate clause.statements.items vars in
    let left = variables_in tables_seen c.run_clause.new.state in
    IfOk-weaker c.run_clause.result
    (λ exits. NotesRun f.number (ran_by (by_expressions f) line clause.predicate (map statement_form c.deref.result.now) vars) (piece_seen c.args.piece.now) (piece_seen c.run_clause.new.piece) left exits)
    _ (λ exits noted slots meant is fit good.
    subst (λ m. NotesRun f.number m (piece_seen c.args.piece.now) (piece_seen c.run_clause.new.piece) left exits)
    (same ∙ ap (λ m. run_of f c.args.index m vars) (sym is)) noted) c.run_clause.ensures.run
