use Rattle.std.proofs.Common.{rules, ◌≡◌, ◌++◌, ◌∷◌, [], List, true, false, arith, filter, length}
use Rattle.std.proofs.Common.{take, get_or, sym, ap, subst, ◌∙◌, append_assoc, length-append}
use Rattle.std.proofs.Common.{slice_index}
use Rattle.std.proofs.lemmas.List.{get_or_default}
use Rattle.replay_core.specs.Vocabulary.{ScriptMeant, Firing, with_ends}
use Rattle.replay_core.specs.Meaning.{history, numbers_of}
use Rattle.replay_core.specs.Running.{IsLaneOf}
use Rattle.replay_core.specs.Selecting.{AreFor}
use Rattle.replay_core.specs.Working.{is_in}
use Rattle.replay_core.specs.Steps.Working.{firings_at}
use Rattle.replay_core.proofs.BeginLemmas.{at_all}
use Rattle.replay_core.proofs.FetchLemmas.{listed_at, mapped_at}
use Rattle.replay_core.proofs.RunLemmas.{fires_more}
use Rattle.replay_core.proofs.SelectionLemmas.{selected_is, selected_short}
use Rattle.replay_core.proofs.WorkSteps.{counts, kept_more, passes}
use Rattle.replay_core.proofs.workers.worker.WorkerInput.run_block.Goals as goal

pub fire-requires-clause-selected : goal.fire-requires-clause-selected
fire-requires-clause-selected g c =
    let some = c.requires.script in
    let s = c.args.self.now in
    let i = c.loop-at.at in
    let indices = c.args.indices.now in
    let list = get_or c.lists-lists.result i c.index-lists-at.result in
    let listed = listed_at c.lists-lists.result s.selections.now indices i c.index-lists-at.result (omega arith) c.lists-lists.ensures in
    (some.0, c.loop-at.invariant.script some.0 some.1 some.2, selected_is some.0 s.trace.now s.selections.now some.2 (slice_index indices i) c.read_at-firing.result list c.read_at-firing.ensures listed)

pub fire-requires-clause-clauses : goal.fire-requires-clause-clauses
fire-requires-clause-clauses g c =
    let s = c.args.self.now in
    let i = c.loop-at.at in
    let indices = c.args.indices.now in
    let list = get_or c.lists-lists.result i c.index-lists-at.result in
    selected_short s.selections.now c.requires.short (slice_index indices i) list (listed_at c.lists-lists.result s.selections.now indices i c.index-lists-at.result (omega arith) c.lists-lists.ensures)

pub loop-at-preserved-then-not-has : goal.loop-at-preserved-then-not-has
loop-at-preserved-then-not-has g c =
    let s = c.args.self.now in
    let i = c.loop-at.at in
    let indices = c.args.indices.now in
    let run = with_ends s.trace.now s.trace.now in
    let index = slice_index indices i in
    let f = c.read_at-firing.result in
    let inv = c.loop-at.invariant in
    let counted = filter (is_in c.args.span) (firings_at run (take i indices)) in
    let item : get_or indices i index ≡ index = get_or_default indices i index 0 (omega arith) in
    let more = kept_more c.args.span run indices i index f (omega arith) item c.read_at-firing.ensures in
    let out : is_in c.args.span f ≡ false = search rules in
    record {
      script = inv.script;
      few = let before = inv.few in omega (arith, before);
      run = λ m before runs are is. subst (λ (l : List Firing). IsLaneOf m l (g.E.Engine.seen c.loop-at.lane))
          (append_assoc before counted (filter (is_in c.args.span) (f ∷ [])) ∙ ap (λ l. before ++ l) (sym more))
          (passes m c.args.span (before ++ counted) f (g.E.Engine.seen c.loop-at.lane) out (inv.run m before runs are is));
    }

pub loop-at-preserved : goal.loop-at-preserved
loop-at-preserved g c =
    let s = c.args.self.now in
    let i = c.loop-at.at in
    let indices = c.args.indices.now in
    let run = with_ends s.trace.now s.trace.now in
    let index = slice_index indices i in
    let f = c.read_at-firing.result in
    let inv = c.loop-at.invariant in
    let list = get_or c.lists-lists.result i c.index-lists-at.result in
    let listed = listed_at c.lists-lists.result s.selections.now indices i c.index-lists-at.result (omega arith) c.lists-lists.ensures in
    let counted = filter (is_in c.args.span) (firings_at run (take i indices)) in
    let item : get_or indices i index ≡ index = get_or_default indices i index 0 (omega arith) in
    let more = kept_more c.args.span run indices i index f (omega arith) item c.read_at-firing.ensures in
    let within : is_in c.args.span f ≡ true = search rules in
    let old = g.E.Engine.seen c.loop-at.lane in
    let new = g.E.Engine.seen c.fire.new.lane in
    let (m₀, runs₀, are₀) = c.requires.script in
    let chosen : (m : ScriptMeant) → AreFor s.trace.now s.selections.now m → _ = λ m are. selected_is m s.trace.now s.selections.now are index f list c.read_at-firing.ensures listed in
    record {
      script = λ m runs are. c.fire.ensures.script m (inv.script m runs are) (chosen m are);
      few = let step = c.in_ok-fire.ensures.step m₀ (inv.script m₀ runs₀ are₀) (chosen m₀ are₀) in
          let taken = ap length step.piece.taken ∙ length-append old.piece.taken (numbers_of (history m₀ (f ∷ []) old.threads)) in
          let before = inv.few in omega (arith, taken, before);
      run = λ m before runs are is. subst (λ (l : List Firing). IsLaneOf m l new)
          (append_assoc before counted (filter (is_in c.args.span) (f ∷ [])) ∙ ap (λ l. before ++ l) (sym more))
          (counts m c.args.span (before ++ counted) f new within
          (fires_more m (before ++ counted) f old new (inv.run m before runs are is) (c.in_ok-fire.ensures.step m (inv.script m runs are) (chosen m are))));
    }

pub returns-clause-run : goal.returns-clause-run
returns-clause-run g c = λ m before runs are is.
    let t = c.args.self.now.trace.now in
    let run = with_ends t t in
    let indices = c.args.indices.now in
    subst (λ (l : List Firing). IsLaneOf m (before ++ filter (is_in c.args.span) l) (g.E.Engine.seen c.loop-at.lane))
    (sym (at_all run indices c.loop-at.at (omega arith))) (c.loop-at.invariant.run m before runs are is)

pub returns-clause-script : goal.returns-clause-script
returns-clause-script g c = c.loop-at.invariant.script

pub read_at-firing-requires-clause-row : goal.read_at-firing-requires-clause-row
read_at-firing-requires-clause-row g c =
    let read = mapped_at _ c.rows-rows.result c.args.indices.now c.loop-at.at (omega arith) c.rows-rows.ensures in
    search (rules, read)
