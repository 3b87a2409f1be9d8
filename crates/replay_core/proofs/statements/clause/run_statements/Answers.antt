use Rattle.std.proofs.Common.{◌≡◌, ◌+◌, ◌<◌, ◌∷◌, ◌++◌, [], ◌||◌, length, map, take, Ok, Err, refl}
use Rattle.std.proofs.Common.{rules, arith, drop, subst, sym, ap, ◌∙◌}
use Rattle.std.proofs.lemmas.List.{drop_all}
use Rattle.shard_queue.proofs.Lists.{drop_next}
use Rattle.replay_core.specs.Vocabulary.{functions_of, effect_by, fault_line}
use Rattle.replay_core.specs.Bounds.{index_in}
use Rattle.replay_core.specs.Steps.EffectRuns.{effect_then, statements_by}
use Rattle.replay_core.specs.Steps.Effects.{Performs}
use Rattle.replay_core.specs.Evaluation.{variables_in}
use Rattle.replay_core.specs.Seen.{piece_seen}
use Rattle.replay_core.proofs.EffectLemmas.{SoFar, none_yet, goes_on, faults, ends}
use Rattle.replay_core.proofs.IndexLemmas.{index_at}
use Rattle.replay_core.proofs.PieceLemmas.{more_then, no_more}
use Rattle.replay_core.proofs.StateLemmas.{number_stays, stays_refl, stays_then, taken_still}
use Rattle.replay_core.proofs.statements.clause.run_statements.Goals as goal

pub perform-requires : goal.perform-requires
perform-requires g c =
    let i = c.loop-statement.statement-index in
    let more = c.loop-statement.invariant.more in
    let stays = c.loop-statement.invariant.stays in
    let within : i < length c.args.statements.now = search rules in
    let few = index_at g.S.Statement.form (length (functions_of c.args.piece.now.table)) c.args.statements.now i c.statement-item.result within c.requires.room.known in
    let at = ap (λ s. index_in (g.S.Statement.form s)) c.statement-item.is in
    let same = ap length more.functions in
    let held = more.held in
    let room = c.requires.room.room in
    record {
      room = record { known = omega (arith, few, at, same); room = omega (arith, within, held, room) };
      taken = taken_still g.X.Store.Store.seen c.args.state.now c.loop-statement.state c.args.piece.now c.loop-statement.piece stays more.taken c.requires.taken;
    }

pub note_fault-requires : goal.note_fault-requires
note_fault-requires g c =
    let i = c.loop-statement.invariant in
    let stays = stays_then g.X.Store.Store.seen c.args.state.now c.loop-statement.state c.perform.new.state i.stays c.perform.ensures.effect.0 in
    taken_still g.X.Store.Store.seen c.args.state.now c.perform.new.state c.args.piece.now c.perform.new.piece stays (c.perform.ensures.more.taken ∙ i.more.taken) c.requires.taken

pub loop-statement-init : goal.loop-statement-init
loop-statement-init g c = record {
  more = no_more 0 c.args.piece.now;
  stays = stays_refl g.X.Store.Store.seen c.args.state.now;
  so_far = none_yet c.args.state.now.firing.now.number _ (piece_seen c.args.piece.now);
}

pub loop-statement-preserved : goal.loop-statement-preserved
loop-statement-preserved g c =
    let f = c.args.state.now.firing.now in
    let by = g.X.Expression.by f in
    let form = g.S.Statement.form in
    let all = c.args.statements.now in
    let i = c.loop-statement.statement-index in
    let item = c.statement-item.result in
    let now = variables_in g.X.Store.Store.seen c.loop-statement.state in
    let left = statements_by by (map form (drop i all)) now in
    let o = effect_by by (form item) now in
    let go = statements_by by (map form (drop (i + 1) all)) in
    let cut = drop_next all i item (search rules) (sym c.statement-item.is) in
    let is : left ≡ effect_then o go = ap (λ l. statements_by by (map form l) now) cut in
    let stays = c.loop-statement.invariant.stays in
    let performs = subst (λ s. Performs s.now.number (effect_by (g.X.Expression.by s.now) (form item) now) (piece_seen c.loop-statement.piece) (Ok c.in-Ok.exited) (piece_seen c.perform.new.piece) (variables_in g.X.Store.Store.seen c.perform.new.state))
    stays.firing c.in-Ok.ensures.effect.1 in
    record {
      more = more_then i 1 (i + 1) c.args.piece.now c.loop-statement.piece c.perform.new.piece (omega arith) c.loop-statement.invariant.more c.in-Ok.ensures.more;
      stays = stays_then g.X.Store.Store.seen c.args.state.now c.loop-statement.state c.perform.new.state stays c.in-Ok.ensures.effect.0;
      so_far = goes_on f.number (statements_by by (map form all) (variables_in g.X.Store.Store.seen c.args.state.now)) left o go
          (piece_seen c.args.piece.now) (piece_seen c.loop-statement.piece) (piece_seen c.perform.new.piece) (variables_in g.X.Store.Store.seen c.perform.new.state)
          c.loop-statement.exits c.in-Ok.exited (c.loop-statement.exits || c.in-Ok.exited) c.loop-statement.invariant.so_far is performs refl;
    }

pub returns-in-Err-DivideByZero-clause-run : goal.returns-in-Err-DivideByZero-clause-run
returns-in-Err-DivideByZero-clause-run g c =
    let f = c.args.state.now.firing.now in
    let by = g.X.Expression.by f in
    let form = g.S.Statement.form in
    let all = c.args.statements.now in
    let i = c.loop-statement.statement-index in
    let item = c.statement-item.result in
    let now = variables_in g.X.Store.Store.seen c.loop-statement.state in
    let left = statements_by by (map form (drop i all)) now in
    let o = effect_by by (form item) now in
    let go = statements_by by (map form (drop (i + 1) all)) in
    let cut = drop_next all i item (search rules) (sym c.statement-item.is) in
    let is : left ≡ effect_then o go = ap (λ l. statements_by by (map form l) now) cut in
    let line = fault_line f.number c.args.index in
    let noted = c.in_ok-note_fault-in-Err-DivideByZero.ensures in
    let stays = stays_then g.X.Store.Store.seen c.args.state.now c.loop-statement.state c.perform.new.state c.loop-statement.invariant.stays c.perform.ensures.effect.0 in
    let same = number_stays g.X.Store.Store.seen c.args.state.now c.perform.new.state stays in
    let performs = subst (λ s. Performs s.now.number (effect_by (g.X.Expression.by s.now) (form item) now) (piece_seen c.loop-statement.piece) c.perform.result (piece_seen c.perform.new.piece) (variables_in g.X.Store.Store.seen c.perform.new.state))
    c.loop-statement.invariant.stays.firing c.perform.ensures.effect.1 in
    let before : c.len-before.result ≡ length c.args.piece.now.events.items = search rules in
    faults f.number line (statements_by by (map form all) (variables_in g.X.Store.Store.seen c.args.state.now)) left o go
    (piece_seen c.args.piece.now) (piece_seen c.loop-statement.piece) (piece_seen c.perform.new.piece) (piece_seen c.note_fault.new.self) (variables_in g.X.Store.Store.seen c.perform.new.state)
    c.loop-statement.exits c.loop-statement.invariant.so_far is
    (subst (λ r. Performs f.number o (piece_seen c.loop-statement.piece) r (piece_seen c.perform.new.piece) (variables_in g.X.Store.Store.seen c.perform.new.state))
    (c.in-Err-DivideByZero.is ∙ ap (λ e. Err e) c.in-Err-DivideByZero.field-0-is) performs)
    (noted.texts ∙ ap (λ n. take c.len-before.result c.perform.new.piece.events.items ++ (n, fault_line n c.args.index) ∷ []) same
    ∙ ap (λ n. take n c.perform.new.piece.events.items ++ (f.number, line) ∷ []) before) noted.kept.table noted.kept.taken noted.exit

pub returns-clause-run : goal.returns-clause-run
returns-clause-run g c =
    let f = c.args.state.now.firing.now in
    let by = g.X.Expression.by f in
    let form = g.S.Statement.form in
    let all = c.args.statements.now in
    let i = c.loop-statement.statement-index in
    let now = variables_in g.X.Store.Store.seen c.loop-statement.state in
    let whole = statements_by by (map form all) (variables_in g.X.Store.Store.seen c.args.state.now) in
    let none : drop i all ≡ [] = drop_all i all (omega arith) in
    ends f.number (fault_line f.number c.args.index) whole (piece_seen c.args.piece.now) (piece_seen c.loop-statement.piece) now c.loop-statement.exits
    (subst (λ l. SoFar f.number whole (statements_by by (map form l) now) (piece_seen c.args.piece.now) (piece_seen c.loop-statement.piece) c.loop-statement.exits)
    none c.loop-statement.invariant.so_far)
