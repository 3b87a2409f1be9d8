use Rattle.std.proofs.Common.{length, map, subst, sym, ap, ◌∙◌}
use Rattle.std.proofs.lemmas.Result.{IfOk-weaker}
use Rattle.dif_codegen.specs.Meaning.{by_objects}
use Rattle.replay_core.specs.Vocabulary.{fault_line, action_code}
use Rattle.replay_core.specs.Bounds.{indices_among}
use Rattle.replay_core.specs.Effects.{CanNote, HasMore, NotesRun}
use Rattle.replay_core.specs.Evaluation.{variables_in}
use Rattle.replay_core.specs.WordStore.{words_seen}
use Rattle.replay_core.specs.Seen.{piece_seen}
use Rattle.replay_core.specs.Steps.EffectRuns.{ran_by}
use Rattle.replay_core.proofs.EffectRuns.{run_by_is}
use Rattle.replay_core.proofs.lanes.clause.CompiledClauseClause.run.Goals as goal

pub run_clause-requires : goal.run_clause-requires
run_clause-requires c =
    subst (λ l. CanNote (indices_among (map action_code l)) (length l) c.args.state.now c.args.piece.now) (sym c.deref.ensures.value) c.requires

pub returns-clause-more : goal.returns-clause-more
returns-clause-more c = subst (λ l. HasMore (length l) c.args.piece.now c.run_clause.new.piece) c.deref.ensures.value c.run_clause.ensures.more

pub returns-clause-run : goal.returns-clause-run
returns-clause-run c =
    let f = c.args.state.now.firing.now in
    let line = fault_line f.number c.args.index in
    let vars = variables_in words_seen c.args.state.now in
    let left = variables_in words_seen c.run_clause.new.state in
    let by = by_objects f in
    let same = ap (λ l. ran_by by line c.args.self.now.predicate (map action_code l) vars) c.deref.ensures.value
    ∙ sym (run_by_is by line c.args.self.now.predicate (map action_code c.args.self.now.actions.items) vars) in
    IfOk-weaker c.run_clause.result
    (λ exits. NotesRun f.number (ran_by (by_objects f) line c.args.self.now.predicate (map action_code c.deref.result.now) vars) (piece_seen c.args.piece.now) (piece_seen c.run_clause.new.piece) left exits)
    _ (λ exits noted slots meant does fit good.
    subst (λ m. NotesRun f.number m (piece_seen c.args.piece.now) (piece_seen c.run_clause.new.piece) left exits)
    (same ∙ does.runs f c.args.index vars fit good) noted) c.run_clause.ensures.run
