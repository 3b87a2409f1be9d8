use Rattle.std.proofs.Common.{◌≡◌, [], rules, subst, sym}
use Rattle.aggregations.proofs.MergeLemmas.{MergingTables, tables_all, tables_function}
use Rattle.aggregations.proofs.MergeLemmas.{tables_functions, tables_more, tables_start}
use Rattle.aggregations.proofs.table.AggTable.merge.Goals as goal

pub loop-more-init : goal.loop-more-init
loop-more-init c =
    let first = c.args.self.now in
    let all = c.args.other in (
      subst (λ l. MergingTables first all l c.self.inside.aggregations.items) (sym c.other.view_is)
          (subst (MergingTables first all all) (sym c.self.view_is) (tables_start first all)),
      c.self.invariant.1,
    )

pub merge-requires-clause-function : goal.merge-requires-clause-function
merge-requires-clause-function c =
    tables_function c.args.self.now c.args.other c.loop-more.self-inside.aggregations.items c.loop-more.rest.items c.pop.new.self.items c.in-Some.more
    c.requires.functions c.loop-more.invariant.0 c.in-Some.ensures.items c.len-agg.result (search rules) c.index_mut.result.now c.index_mut.ensures.value

pub loop-more-preserved : goal.loop-more-preserved
loop-more-preserved c = (
  tables_more c.args.self.now c.args.other c.loop-more.self-inside.aggregations.items c.loop-more.rest.items c.pop.new.self.items c.in-Some.more
      c.requires.functions c.loop-more.invariant.0 c.in-Some.ensures.items c.len-agg.result (search rules) c.index_mut.result.now c.index_mut.ensures.value
      c.merge.new.self c.merge.ensures.function c.in_ok-merge.ensures.ok c.merge.ensures.count,
  c.loop-more.invariant.1,
)

pub returns-in_err-merge-clause-functions : goal.returns-in_err-merge-clause-functions
returns-in_err-merge-clause-functions c =
    tables_functions c.args.self.now c.args.other c.loop-more.self-inside.aggregations.items c.loop-more.rest.items c.pop.new.self.items c.in-Some.more
    c.requires.functions c.loop-more.invariant.0 c.in-Some.ensures.items c.len-agg.result (search rules) c.index_mut.result.now c.index_mut.ensures.value
    c.merge.new.self c.merge.ensures.function

pub returns-clause-ok : goal.returns-clause-ok
returns-clause-ok c = λ xs ys.
    let now = c.loop-more.self-inside.aggregations.items in
    let none : c.loop-more.rest.items ≡ [] = search rules in
    tables_all c.args.self.now c.args.other now xs ys c.requires.functions (subst (λ l. MergingTables c.args.self.now c.args.other l now) none c.loop-more.invariant.0)
