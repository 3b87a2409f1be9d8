use Rattle.std.proofs.Common.{◌≡◌, ◌+◌, ◌<◌, [], ◌∷◌, ◌++◌, arith, length, take, drop, get_or, min}
use Rattle.std.proofs.Common.{sym, ap, ◌∙◌, subst, append_assoc, List, slice_index}
use Rattle.std.proofs.lemmas.List.{get_or_default, length-map}
use Rattle.replay_core.specs.Vocabulary.{Firing, with_ends, number_of}
use Rattle.replay_core.specs.Beginnings.{exit_over, lesser_of}
use Rattle.replay_core.specs.Running.{IsLaneOf}
use Rattle.replay_core.specs.Steps.Working.{firings_at}
use Rattle.replay_core.proofs.BeginLemmas.{at_all, at_next, at_parts, ended_by_exit, ended_by_last}
use Rattle.replay_core.proofs.BeginLemmas.{ended_by_number, now_lowered, still_none}
use Rattle.replay_core.proofs.RunLemmas.{fires_more}
use Rattle.replay_core.proofs.SelectionLemmas.{selected_is, selected_short}
use Rattle.replay_core.proofs.WorkSteps.{at_more, few_at}
use Rattle.replay_core.proofs.workers.until.run_until.Goals as goal

pub fire-requires-clause-selected : goal.fire-requires-clause-selected
fire-requires-clause-selected g c =
    let some = c.requires.script in
    let index = slice_index c.args.indices.now c.loop-index.index-index in
    (some.0, c.loop-index.invariant.script some.0 some.1 some.2, selected_is some.0 c.args.input.now.trace.now c.args.input.now.selections.now some.2 index c.firing_at-firing.result c.at.result c.firing_at-firing.ensures.firing c.at.ensures)

pub fire-requires-clause-clauses : goal.fire-requires-clause-clauses
fire-requires-clause-clauses g c =
    selected_short c.args.input.now.selections.now c.requires.short (slice_index c.args.indices.now c.loop-index.index-index) c.at.result c.at.ensures

pub fire-requires-clause-few : goal.fire-requires-clause-few
fire-requires-clause-few g c =
    let some = c.requires.script in
    let i = c.loop-index.index-index in
    let run = with_ends c.args.input.now.trace.now c.args.input.now.trace.now in
    let before = firings_at run (take i c.args.indices.now) in
    let taken = ap length (c.loop-index.invariant.run some.0 some.1 some.2).piece.taken in
    let same = length-map before number_of in
    let few = few_at run i c.args.indices.now in
    let most = c.requires.few in
    let all = c.firing_at-firing.ensures.few in
    let inside = c.loop-index-test.true in
    omega (arith, taken, same, few, most, all, inside)

pub returns-then-least-firing-clause-run : goal.returns-then-least-firing-clause-run
returns-then-least-firing-clause-run g c = λ m runs are.
    let inv = c.loop-index.invariant in
    let i = c.loop-index.index-index in
    let indices = c.args.indices.now in
    let run = with_ends c.args.input.now.trace.now c.args.input.now.trace.now in
    let index = slice_index indices i in
    let f = c.firing_at-firing.result in
    let item : get_or indices i index ≡ index = get_or_default indices i index 0 (omega arith) in
    let before = firings_at run (take i indices) in
    let rest = firings_at run (drop (i + 1) indices) in
    let all = at_parts run indices i ∙ ap (λ l. before ++ l) (at_next run indices i index f (omega arith) item c.firing_at-firing.ensures.firing) in
    let over : g.S.Source.seen c.least.new.seat < f.number = subst (λ n. n < f.number) (sym c.least.ensures.seen) c.if-least-firing.true in
    (before, ended_by_number m (g.S.Source.seen c.least.new.seat) before f rest (firings_at run indices) (inv.none m runs are) over all, inv.run m runs are)

pub returns-then-branch-clause-run : goal.returns-then-branch-clause-run
returns-then-branch-clause-run g c = λ m runs are.
    let inv = c.loop-index.invariant in
    let i = c.loop-index.index-index in
    let indices = c.args.indices.now in
    let run = with_ends c.args.input.now.trace.now c.args.input.now.trace.now in
    let index = slice_index indices i in
    let f = c.firing_at-firing.result in
    let old = g.E.Engine.seen c.loop-index.lane in
    let item : get_or indices i index ≡ index = get_or_default indices i index 0 (omega arith) in
    let before = firings_at run (take i indices) in
    let rest = firings_at run (drop (i + 1) indices) in
    let all = at_parts run indices i ∙ ap (λ l. before ++ l) (at_next run indices i index f (omega arith) item c.firing_at-firing.ensures.firing) ∙ sym (append_assoc before (f ∷ []) rest) in
    let here = inv.script m runs are in
    let exits = sym c.if-branch.true ∙ c.in_ok-fire.ensures.exits m here (selected_is m c.args.input.now.trace.now c.args.input.now.selections.now are (slice_index c.args.indices.now c.loop-index.index-index) c.firing_at-firing.result c.at.result c.firing_at-firing.ensures.firing c.at.ensures) in (
      before ++ f ∷ [],
      ended_by_exit m (g.S.Source.seen c.lower.new.seat) before f rest (firings_at run indices) old.threads (inv.run m runs are).threads (inv.none m runs are) exits all,
      fires_more m before f old (g.E.Engine.seen c.fire.new.lane) (inv.run m runs are) (c.in_ok-fire.ensures.step m here (selected_is m c.args.input.now.trace.now c.args.input.now.selections.now are (slice_index c.args.indices.now c.loop-index.index-index) c.firing_at-firing.result c.at.result c.firing_at-firing.ensures.firing c.at.ensures)),
    )

pub returns-then-branch-clause-least : goal.returns-then-branch-clause-least
returns-then-branch-clause-least g c = λ m runs are.
    let inv = c.loop-index.invariant in
    let i = c.loop-index.index-index in
    let indices = c.args.indices.now in
    let run = with_ends c.args.input.now.trace.now c.args.input.now.trace.now in
    let f = c.firing_at-firing.result in
    let old = g.E.Engine.seen c.loop-index.lane in
    let number = g.S.Source.lowered c.args.seat.now in
    let before = firings_at run (take i indices) in
    let here = inv.script m runs are in
    let exits = sym c.if-branch.true ∙ c.in_ok-fire.ensures.exits m here (selected_is m c.args.input.now.trace.now c.args.input.now.selections.now are (slice_index c.args.indices.now c.loop-index.index-index) c.firing_at-firing.result c.at.result c.firing_at-firing.ensures.firing c.at.ensures) in
    let lane = fires_more m before f old (g.E.Engine.seen c.fire.new.lane) (inv.run m runs are) (c.in_ok-fire.ensures.step m here (selected_is m c.args.input.now.trace.now c.args.input.now.selections.now are (slice_index c.args.indices.now c.loop-index.index-index) c.firing_at-firing.result c.at.result c.firing_at-firing.ensures.firing c.at.ensures)) in
    c.lower.ensures.lowered ∙ ap (λ n. min n f.number) (c.least.ensures.lowered ∙ inv.lowered)
    ∙ now_lowered m before f old.threads number (inv.run m runs are).threads (inv.none m runs are) exits
    ∙ ap (lesser_of number) (sym lane.piece.exit)

pub loop-index-preserved : goal.loop-index-preserved
loop-index-preserved g c =
    let inv = c.loop-index.invariant in
    let i = c.loop-index.index-index in
    let indices = c.args.indices.now in
    let run = with_ends c.args.input.now.trace.now c.args.input.now.trace.now in
    let index = slice_index indices i in
    let f = c.firing_at-firing.result in
    let old = g.E.Engine.seen c.loop-index.lane in
    let item : get_or indices i index ≡ index = get_or_default indices i index 0 (omega arith) in
    let before = firings_at run (take i indices) in
    let more = at_more run indices i index f (omega arith) item c.firing_at-firing.ensures.firing in
    let looked = c.least.ensures in
    record {
      at = looked.seat.0;
      handed = looked.seat.1 ∙ inv.handed;
      seen = let a = looked.seen in let b = looked.own.1 in let d = inv.seen in omega (arith, a, b, d);
      lowered = looked.lowered ∙ inv.lowered;
      script = λ m runs are. c.fire.ensures.script m (inv.script m runs are) (selected_is m c.args.input.now.trace.now c.args.input.now.selections.now are (slice_index c.args.indices.now c.loop-index.index-index) c.firing_at-firing.result c.at.result c.firing_at-firing.ensures.firing c.at.ensures);
      none = λ m runs are. ap (exit_over m) more ∙ still_none m before f old.threads (inv.run m runs are).threads (inv.none m runs are) (sym c.if-branch.false ∙ c.in_ok-fire.ensures.exits m (inv.script m runs are) (selected_is m c.args.input.now.trace.now c.args.input.now.selections.now are (slice_index c.args.indices.now c.loop-index.index-index) c.firing_at-firing.result c.at.result c.firing_at-firing.ensures.firing c.at.ensures));
      run = λ m runs are. subst (λ (l : List Firing). IsLaneOf m l (g.E.Engine.seen c.fire.new.lane)) (sym more)
          (fires_more m before f old (g.E.Engine.seen c.fire.new.lane) (inv.run m runs are) (c.in_ok-fire.ensures.step m (inv.script m runs are) (selected_is m c.args.input.now.trace.now c.args.input.now.selections.now are (slice_index c.args.indices.now c.loop-index.index-index) c.firing_at-firing.result c.at.result c.firing_at-firing.ensures.firing c.at.ensures)));
    }

pub returns-clause-run : goal.returns-clause-run
returns-clause-run g c = λ m runs are.
    let inv = c.loop-index.invariant in
    let i = c.loop-index.index-index in
    let indices = c.args.indices.now in
    let run = with_ends c.args.input.now.trace.now c.args.input.now.trace.now in
    let before = firings_at run (take i indices) in
    (before, ended_by_last m (g.S.Source.seen c.loop-index.seat) before (firings_at run indices) (inv.none m runs are) (at_all run indices i (omega arith)), inv.run m runs are)
