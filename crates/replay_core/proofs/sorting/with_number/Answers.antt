use Rattle.std.proofs.Common.{rules, ◌∙◌, sym, subst, leb, ltb}
use Rattle.std.specs.List.Sorted.{IsNonDecreasingBy}
use Rattle.std.proofs.lemmas.List.Sorted.{IsNonDecreasingBy-drop, IsPartitionedBy-leb}
use Rattle.std.proofs.lemmas.List.Sorted.{IsPartitionedBy-ltb, IsPartitionPoint-from_clause}
use Rattle.replay_core.proofs.NumberOrder.{non_decreasing, sought_between}
use Rattle.replay_core.proofs.sorting.with_number.Goals as goal

pub returns : goal.returns
returns g c = λ order.
    let n = c.args.number in
    let xs = c.args.sorted.now in
    let rises = non_decreasing xs order in
    let first = IsPartitionPoint-from_clause (λ y. ltb y.0 n) xs c.partition_point-less.result c.partition_point-less.ensures.partitioned (IsPartitionedBy-ltb (λ e. e.0) xs n rises) (λ a r q k. search rules) in
    let rest = c.split_at.ensures.back in
    let second = IsPartitionPoint-from_clause (λ y. leb y.0 n) c.split_at.result.1.now c.partition_point-count.result c.partition_point-count.ensures.partitioned
    (IsPartitionedBy-leb (λ e. e.0) c.split_at.result.1.now n (subst (λ l. IsNonDecreasingBy (λ e. e.0) l) (sym rest) (IsNonDecreasingBy-drop (λ e. e.0) c.partition_point-less.result xs rises))) (λ a r q k. search rules) in
    c.split_at-2.ensures.front
    ∙ sought_between n xs c.split_at.result.1.now c.partition_point-less.result c.partition_point-count.result c.partition_point-less.ensures.bound rest first c.partition_point-count.ensures.bound second
