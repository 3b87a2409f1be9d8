use Rattle.std.proofs.Common.{rules, ◌≡◌, ◌<◌, ◌++◌, List, ℕ, Bool, All, arith, filter, length}
use Rattle.std.proofs.Common.{refl, sym, ap, subst, ◌∙◌, append_assoc, append-nil, length-append}
use Rattle.std.proofs.Common.{Contains, [], ℤ}
use Rattle.std.specs.Slice.Iter.{chunks_rest}
use Rattle.std.proofs.lemmas.List.{length-map, nil_from_length}
use Rattle.std.proofs.lemmas.List.Elements.{All-contains, All-contains_itself, All-weaker}
use Rattle.std.proofs.lemmas.List.Elements.{Contains-append_left, Contains-append_right}
use Rattle.shard_queue.specs.Groupings.{indices_of}
use Rattle.replay_core.specs.Vocabulary.{Firing, with_ends, number_of, grouping}
use Rattle.replay_core.specs.Groups.{is_group, of_group}
use Rattle.replay_core.specs.Pieces.{IsPieceOf}
use Rattle.replay_core.specs.Running.{IsLaneOf}
use Rattle.replay_core.specs.Working.{is_in}
use Rattle.replay_core.specs.Steps.Working.{firings_at}
use Rattle.replay_core.proofs.FetchLemmas.{block_more, few_counted}
use Rattle.replay_core.proofs.GroupFirings.{all_below, chosen, few_indices, filter_swap}
use Rattle.replay_core.proofs.TraceRuns.{threads_are}
use Rattle.replay_core.proofs.workers.worker.WorkerInput.push_piece.Goals as goal

pub run_block-requires-clause-script : goal.run_block-requires-clause-script
run_block-requires-clause-script g c κs within =
    let (m, runs) = c.requires.ready.0.script in
    (m, c.loop-block.invariant.3.script m runs, c.requires.ready.1.each m runs)

pub run_block-requires-clause-short : goal.run_block-requires-clause-short
run_block-requires-clause-short g c κs within = c.requires.ready.1.few

pub run_block-requires-clause-indices : goal.run_block-requires-clause-indices
run_block-requires-clause-indices g c κs within =
    let s = c.args.self.now in
    let t = s.trace.now in
    let of_run : ℕ → Type 0 = λ p. p < length (with_ends t t) in
    let are = c.requires.ready.0.placed.indices c.args.group ∙ ap (indices_of (grouping s.groups.now) c.args.group) (sym (threads_are t)) in
    let done = c.loop-block.invariant.2 in
    let block = c.in-Some.block.now in
    let after = chunks_rest c.next.new.self in
    let parts = ap (λ l. done ++ l) (sym c.in-Some.ensures.steps.1.0) ∙ c.loop-block.invariant.3.parts ∙ are in
    let all = subst (λ (ps : List ℕ). All of_run ps) (sym parts) (all_below (λ t. is_group c.args.group ((grouping s.groups.now).group t)) (with_ends t t)) in
    All-weaker (Contains block) of_run (λ p there. All-contains of_run (done ++ (block ++ after)) p all (Contains-append_right done (block ++ after) p (Contains-append_left block after p there))) block (All-contains_itself block)

pub run_block-requires-clause-few : goal.run_block-requires-clause-few
run_block-requires-clause-few g c κs within =
    let (m, runs) = c.requires.ready.0.script in
    let s = c.args.self.now in
    let t = s.trace.now in
    let run = with_ends t t in
    let done = c.loop-block.invariant.2 in
    let inv = c.loop-block.invariant.3 in
    let block = c.in-Some.block.now in
    let after = chunks_rest c.next.new.self in
    let taken = ap length (inv.run m runs).piece.taken in
    let same = length-map (filter (is_in c.args.span) (firings_at run done)) number_of in
    let few = few_counted c.args.span run done in
    let all = ap length inv.parts in
    let first = length-append done (chunks_rest c.loop-block.block-iterator) in
    let rest = ap length c.in-Some.ensures.steps.1.0 in
    let second = length-append block after in
    let are = ap length (c.requires.ready.0.placed.indices c.args.group ∙ ap (indices_of (grouping s.groups.now) c.args.group) (sym (threads_are t))) in
    let most = few_indices (λ t. is_group c.args.group ((grouping s.groups.now).group t)) 0 run in
    omega (arith, taken, same, few, all, first, rest, second, are, most)

pub loop-block-init : goal.loop-block-init
loop-block-init g c =
    let whole : chunks_rest c.into_iter-block-iterator.result ≡ c.indices-indices.result.now = search rules in
    let lane = c.in_ok-lane.ensures in (
      search rules,
      tt,
      [],
      record {
        size = search rules;
        parts = whole ∙ c.indices-indices.ensures;
        script = lane.script;
        run = λ m runs. lane.fresh m (lane.script m runs);
      },
    )

pub loop-block-preserved : goal.loop-block-preserved
loop-block-preserved g c =
    let t = c.args.self.now.trace.now in
    let run = with_ends t t in
    let done = c.loop-block.invariant.2 in
    let inv = c.loop-block.invariant.3 in
    let block = c.in-Some.block.now in
    let steps = c.in-Some.ensures.steps in
    let ran = c.in-Ok.ensures in (
      search rules,
      tt,
      done ++ block,
      record {
        size = steps.0 ∙ inv.size;
        parts = append_assoc done block (chunks_rest c.next.new.self) ∙ ap (λ l. done ++ l) (sym steps.1.0) ∙ inv.parts;
        script = λ m runs. ran.script m (inv.script m runs) (c.requires.ready.1.each m runs);
        run = λ m runs. subst (λ (l : List Firing). IsLaneOf m l (g.L.Lane.Engine.seen c.run_block.new.lane)) (sym (block_more c.args.span run done block))
            (ran.run m (filter (is_in c.args.span) (firings_at run done)) (inv.script m runs) (c.requires.ready.1.each m runs) (inv.run m runs));
      },
    )

pub returns : goal.returns
returns g c =
    let s = c.args.self.now in
    let t = s.trace.now in
    let fs = with_ends t t in
    let in_group : ℤ → Bool = λ t. is_group c.args.group ((grouping s.groups.now).group t) in
    let inv = c.loop-block.invariant.3 in
    let done = c.loop-block.invariant.2 in
    let none = nil_from_length _ c.in-None.ensures.steps.1.0 in
    let ended = sym (append-nil done) ∙ ap (λ l. done ++ l) (sym none) ∙ inv.parts in
    let are = ap (firings_at fs) (ended ∙ c.requires.ready.0.placed.indices c.args.group ∙ ap (indices_of (grouping s.groups.now) c.args.group) (sym (threads_are t))) ∙ chosen in_group fs 0 fs refl in
    let all = ap (filter (is_in c.args.span)) are ∙ filter_swap (is_in c.args.span) (λ f. in_group f.thread) fs in
    let group = of_group (grouping s.groups.now) c.args.group (filter (is_in c.args.span) fs) in
    record {
      piece = c.finish-piece.result;
      pushed = c.in_ok-push.ensures.items;
      is = (
        λ m runs. subst (λ p. IsPieceOf m group p) (sym c.finish-piece.ensures.piece)
            (subst (λ l. IsPieceOf m l (g.L.Lane.Engine.seen c.loop-block.lane).piece) all (inv.run m runs).piece),
        c.finish-piece.ensures.held,
      );
    }
