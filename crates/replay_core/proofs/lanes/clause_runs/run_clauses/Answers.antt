use Rattle.std.proofs.Common.{◌≡◌, ◌+◌, ◌<◌, ◌≤◌, false, ℕ, List, All, length, arith, refl, subst}
use Rattle.std.proofs.Common.{sym, ap, ◌∙◌}
use Rattle.shard_queue.proofs.Lists.{all_head, all_tail}
use Rattle.replay_core.specs.Vocabulary.{functions_of, run_of, HasTypedBuiltIns, Firing}
use Rattle.replay_core.specs.Effects.{NotesRun}
use Rattle.replay_core.specs.Evaluation.{variables_in}
use Rattle.replay_core.specs.Seen.{piece_seen}
use Rattle.replay_core.proofs.StateLemmas.{stays_refl, stays_then, taken_still}
use Rattle.replay_core.proofs.Turning.{Continues, continues_all, continues_start, turn_more}
use Rattle.replay_core.proofs.lanes.clause_runs.run_clauses.Goals as goal

pub loop-index-init : goal.loop-index-init
loop-index-init g c =
    let f = c.args.state.now.firing.now in
    let start = variables_in g.C.Store.Store.seen c.args.state.now in
    let piece = piece_seen c.args.piece.now in
    let long = ap length c.all-left.ensures in
    record {
      there = subst (λ (l : List ℕ). All (λ p. p < length c.args.clauses.now) l) (sym c.all-left.ensures) c.requires.runnable.there;
      functions = refl;
      taken = refl;
      held = omega (arith, long);
      stays = stays_refl g.C.Store.Store.seen c.args.state.now;
      all_made = λ slots cs mean fit good.
          (good, subst (λ (l : List ℕ). Continues f cs c.args.indices.now l start start piece piece false) (sym c.all-left.ensures) (continues_start f cs c.args.indices.now start piece));
    }

pub bounds-clauses-index : goal.bounds-clauses-index
bounds-clauses-index g c =
    all_head (λ p. p < length c.args.clauses.now) c.loop-index.left c.in-Some.index c.next.new.self c.loop-index.invariant.there c.in-Some.ensures

pub run-requires : goal.run-requires
run-requires g c =
    let i = c.loop-index.invariant in
    let n = length (functions_of c.args.piece.now.table) in
    let clause = c.index-clauses-index.result in
    let inside = all_head (λ p. p < length c.args.clauses.now) c.loop-index.left c.in-Some.index c.next.new.self c.loop-index.invariant.there c.in-Some.ensures in
    let named = subst (λ x. g.C.Clause.indices x ≤ n) (sym c.index-clauses-index.is) (c.requires.runnable.bounded.named c.in-Some.index clause inside) in
    let same = ap length i.functions in
    let most : g.C.Clause.most clause ≤ 65536 = subst (λ x. g.C.Clause.most x ≤ 65536) (sym c.index-clauses-index.is) (c.requires.runnable.bounded.few c.in-Some.index clause inside) in
    let left = ap length c.in-Some.ensures in
    let held = i.held in
    let room = c.requires.runnable.room in
    record {
      room = record { known = omega (arith, named, same); room = omega (arith, most, left, held, room) };
      taken = taken_still g.C.Store.Store.seen c.args.state.now c.loop-index.state c.args.piece.now c.loop-index.piece i.stays i.taken c.requires.taken;
    }

pub loop-index-preserved : goal.loop-index-preserved
loop-index-preserved g c =
    let f = c.args.state.now.firing.now in
    let clauses = c.args.clauses.now in
    let index = c.in-Some.index in
    let left = c.next.new.self in
    let clause = c.index-clauses-index.result in
    let i = c.loop-index.invariant in
    let before = variables_in g.C.Store.Store.seen c.args.state.now in
    let now = variables_in g.C.Store.Store.seen c.loop-index.state in
    let after = variables_in g.C.Store.Store.seen c.run.new.state in
    let old = piece_seen c.args.piece.now in
    let piece = piece_seen c.loop-index.piece in
    let next = piece_seen c.run.new.piece in
    let exited = c.in_ok-exited.exited in
    let cut = c.in-Some.ensures in
    let inside = all_head (λ p. p < length clauses) c.loop-index.left index left i.there cut in
    let most : g.C.Clause.most clause ≤ 65536 = subst (λ x. g.C.Clause.most x ≤ 65536) (sym c.index-clauses-index.is) (c.requires.runnable.bounded.few index clause inside) in
    let long = ap length cut in
    let here : c.loop-index.state.firing.now ≡ f = ap (λ s. s.now) i.stays.firing in
    let held = c.run.ensures.more.held in
    let before_held = i.held in
    record {
      there = all_tail (λ p. p < length clauses) c.loop-index.left index left i.there cut;
      functions = c.run.ensures.more.functions ∙ i.functions;
      taken = c.run.ensures.more.taken ∙ i.taken;
      held = omega (arith, most, held, before_held, long);
      stays = stays_then g.C.Store.Store.seen c.args.state.now c.loop-index.state c.run.new.state i.stays c.run.ensures.state;
      all_made = λ slots cs mean fit good.
          let so_far = i.all_made slots cs mean fit good in
          turn_more f cs g.C.Clause.means slots clauses clause c.args.indices.now left index before now after old piece next c.loop-index.exits exited
          mean inside c.index-clauses-index.is fit
          (λ m meant. subst (λ (f : Firing). NotesRun f.number (run_of f (index + 1) m now) piece next after exited) here
          (c.in_ok-exited.ensures.run slots m meant (subst HasTypedBuiltIns (sym here) fit) so_far.0))
          (so_far.0, subst (λ (l : List ℕ). Continues f cs c.args.indices.now l before now old piece c.loop-index.exits) cut so_far.1);
    }

pub returns-clause-more : goal.returns-clause-more
returns-clause-more g c =
    let i = c.loop-index.invariant in
    let held = i.held in
    record { held = omega (arith, held); functions = i.functions; taken = i.taken }

pub returns-clause-run : goal.returns-clause-run
returns-clause-run g c = λ slots cs mean fit good.
    let f = c.args.state.now.firing.now in
    continues_all f cs _ _ _ _ _ c.loop-index.exits
    (subst (λ (l : List ℕ). Continues f cs c.args.indices.now l (variables_in g.C.Store.Store.seen c.args.state.now) (variables_in g.C.Store.Store.seen c.loop-index.state) (piece_seen c.args.piece.now) (piece_seen c.loop-index.piece) c.loop-index.exits)
    c.in_default.ensures (c.loop-index.invariant.all_made slots cs mean fit good).1)
