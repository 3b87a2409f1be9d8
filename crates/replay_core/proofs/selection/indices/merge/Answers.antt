use Rattle.std.proofs.Common.{rules, arith, ◌≡◌, ◌∙◌, ◌++◌, sym, ap, [], length, vec_len}
use Rattle.std.proofs.lemmas.Bool.Decides.{nat_tests}
use Rattle.std.proofs.lemmas.List.{nil_from_length}
use Rattle.replay_core.specs.Steps.Indices.{merge}
use Rattle.replay_core.proofs.IndicesMerged.{merged_more, merged_none}
use Rattle.replay_core.proofs.selection.indices.merge.Goals as goal

pub returns-then-is_empty : goal.returns-then-is_empty
returns-then-is_empty c =
    let len : vec_len c.args.more ≡ length c.args.more.items = c.args.more.ok.0 in
    let zero : length c.args.more.items ≡ 0 = grind (arith, nat_tests, c.is_empty.ensures, c.if-is_empty.true) in
    let none : c.args.more.items ≡ [] = nil_from_length c.args.more.items zero in
    sym (ap (merge c.args.indices.items) none ∙ merged_none c.args.indices.items)

pub loop-index-init : goal.loop-index-init
loop-index-init c =
    let rest : c.into_iter-index-iterator.result.rest.items ≡ c.args.indices.items = search rules in
    ap (λ l. l ++ merge c.into_iter-index-iterator.result.rest.items c.as_slice-rest.result.now) c.new-all.ensures.items
    ∙ ap (λ l. merge l c.as_slice-rest.result.now) rest ∙ ap (merge c.args.indices.items) c.as_slice-rest.ensures.value

pub loop-index-preserved : goal.loop-index-preserved
loop-index-preserved c =
    let steps = c.in-Some.ensures.steps in
    let so_far : c.loop-index.all.items ++ merge c.loop-index.index-iterator.rest.items c.loop-index.rest.now ≡ merge c.args.indices.items c.args.more.items = c.loop-index.invariant in
    merged_more c.loop-index.all.items c.extend_from_slice.new.self.items c.push.new.self.items c.in-Some.index c.next.new.self.rest.items c.loop-index.rest.now
    c.split_at.result.1.now c.split_at.result.0.now (merge c.args.indices.items c.args.more.items)
    (c.split_at.ensures.front ∙ c.count_below.ensures.front) (c.split_at.ensures.back ∙ c.count_below.ensures.behind)
    c.in_ok-extend_from_slice.ensures.items c.in_ok-push.ensures.items
    (ap (λ l. c.loop-index.all.items ++ merge l c.loop-index.rest.now) (sym steps.0) ∙ so_far)

pub returns : goal.returns
returns c =
    let left = c.loop-index.index-iterator.rest in
    let none : left.items ≡ [] = nil_from_length left.items (sym left.ok.0 ∙ c.in-None.ensures.steps.0) in
    let so_far : c.loop-index.all.items ++ merge left.items c.loop-index.rest.now ≡ merge c.args.indices.items c.args.more.items = c.loop-index.invariant in
    c.in_ok-extend_from_slice-2.ensures.items ∙ ap (λ l. c.loop-index.all.items ++ merge l c.loop-index.rest.now) (sym none) ∙ so_far
