use Rattle.std.proofs.Common.{◌≡◌, ◌∷◌, [], take, Some, sym, subst, arith}
use Rattle.std.specs.List.{enumerate_from, slice_get}
use Rattle.std.proofs.lemmas.List.{length-map, take_all}
use Rattle.std.proofs.lemmas.List.FromFn.{length-enumerate_from}
use Rattle.d_types.specs.Typed.{agg_of, aggs_of}
use Rattle.data_lines.specs.Steps.Runs.{AppendsListed}
use Rattle.data_lines.proofs.Listed.{function_at, listed_more, listed_none, take_numbered}
use Rattle.data_lines.proofs.rendering.put_aggregations.Goals as goal

pub loop-index-init : goal.loop-index-init
loop-index-init c contributions stands = listed_none contributions c.args.out.now.items

pub put_aggregation-requires : goal.put_aggregation-requires
put_aggregation-requires c =
    let a = c.index-aggregations-index.result in
    subst (λ fs. slice_get fs c.loop-index.index ≡ Some a.function) (sym c.requires)
    (function_at c.args.aggregations.now c.loop-index.index a c.loop-index-test.true c.index-aggregations-index.is)

pub loop-index-preserved : goal.loop-index-preserved
loop-index-preserved c contributions stands =
    let all = c.args.aggregations.now in
    let index = c.loop-index.index in
    let a = c.index-aggregations-index.result in
    let old = c.args.out.now.items in
    let after = c.put_aggregation.new.out.items in
    let front = take index (enumerate_from 0 (aggs_of all)) in
    subst (λ l. AppendsListed l contributions old after) (sym (take_numbered all index a c.loop-index-test.true c.index-aggregations-index.is))
    (listed_more contributions front ((index, agg_of a) ∷ []) old c.loop-index.out.items after (c.loop-index.invariant contributions stands)
    (c.in_ok-put_aggregation.ensures contributions stands))

pub returns : goal.returns
returns c contributions stands =
    let all = aggs_of c.args.aggregations.now in
    let long = length-map c.args.aggregations.now agg_of in
    let numbers = length-enumerate_from 0 all in
    let past = c.loop-index-test.false in
    subst (λ l. AppendsListed l contributions c.args.out.now.items c.loop-index.out.items)
    (take_all c.loop-index.index (enumerate_from 0 all) (omega arith)) (c.loop-index.invariant contributions stands)
