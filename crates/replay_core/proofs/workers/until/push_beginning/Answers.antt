use Rattle.std.proofs.Common.{◌<◌, sym, ap, ◌∙◌, subst, refl, length, All, ℕ, List, arith}
use Rattle.shard_queue.specs.Groupings.{indices_of}
use Rattle.replay_core.specs.Vocabulary.{Firing, with_ends, grouping}
use Rattle.replay_core.specs.Beginnings.{lesser_of}
use Rattle.replay_core.specs.Steps.Beginnings.{RunsBeginning}
use Rattle.replay_core.specs.Groups.{is_group}
use Rattle.replay_core.specs.Pieces.{IsPieceOf}
use Rattle.replay_core.specs.Steps.Working.{firings_at}
use Rattle.replay_core.proofs.GroupFirings.{all_below, chosen, few_indices}
use Rattle.replay_core.proofs.TraceRuns.{threads_are}
use Rattle.replay_core.proofs.workers.until.push_beginning.Goals as goal

pub run_until-requires-clause-indices : goal.run_until-requires-clause-indices
run_until-requires-clause-indices g c =
    let t = c.args.input.now.trace.now in
    let groups = grouping c.args.input.now.groups.now in
    let are = c.indices.ensures ∙ c.requires.ready.0.placed.indices c.args.group ∙ ap (indices_of groups c.args.group) (sym (threads_are t)) in
    subst (λ (ps : List ℕ). All (λ p. p < length (with_ends t t)) ps) (sym are) (all_below (λ t. is_group c.args.group (groups.group t)) (with_ends t t))

pub run_until-requires-clause-few : goal.run_until-requires-clause-few
run_until-requires-clause-few g c =
    let t = c.args.input.now.trace.now in
    let groups = grouping c.args.input.now.groups.now in
    let are = ap length (c.indices.ensures ∙ c.requires.ready.0.placed.indices c.args.group ∙ ap (indices_of groups c.args.group) (sym (threads_are t))) in
    let few = few_indices (λ t. is_group c.args.group (groups.group t)) 0 (with_ends t t) in
    omega (arith, are, few)

pub returns-clause-added : goal.returns-clause-added
returns-clause-added g c =
    let t = c.args.input.now.trace.now in
    let fs = with_ends t t in
    let groups = grouping c.args.input.now.groups.now in
    let lane = g.L.Lane.Engine.seen c.run_until.new.lane in
    let seen = g.S.Source.seen c.run_until.new.seat in
    let all = ap (firings_at fs) (c.indices.ensures ∙ c.requires.ready.0.placed.indices c.args.group ∙ ap (indices_of groups c.args.group) (sym (threads_are t))) ∙ chosen (λ t. is_group c.args.group (groups.group t)) fs 0 fs refl in
    let script = c.requires.ready.0.script in
    record {
      piece = c.finish-piece.result;
      pushed = c.in_ok-push.ensures.items;
      is = (
        λ m runs.
            let ran = subst (λ (l : List Firing). RunsBeginning m seen l lane) all (c.in-Ok.ensures.run m (c.in_ok-lane.ensures.script m runs) (c.requires.ready.1.each m runs)) in
            record {
              fired = ran.0;
              beginning = ran.1;
              piece = subst (λ p. IsPieceOf m ran.0 p) (sym c.finish-piece.ensures.piece) ran.2.piece;
            },
        c.finish-piece.ensures.held,
        c.in-Ok.ensures.least script.0 (c.in_ok-lane.ensures.script script.0 script.1) (c.requires.ready.1.each script.0 script.1)
            ∙ ap (λ p. lesser_of (g.S.Source.lowered c.args.seat.now) p.exit) (sym c.finish-piece.ensures.piece),
      );
    }

pub run_until-requires-clause-script : goal.run_until-requires-clause-script
run_until-requires-clause-script g c =
    let (m, runs) = c.requires.ready.0.script in
    (m, c.in_ok-lane.ensures.script m runs, c.requires.ready.1.each m runs)

pub run_until-requires-clause-short : goal.run_until-requires-clause-short
run_until-requires-clause-short g c = c.requires.ready.1.few
