use Rattle.std.proofs.Common.{◌≡◌, [], length}
use Rattle.aggregations.proofs.MergeLemmas.{MergingTables}
use Rattle.aggregations.proofs.table.AggTable.merge.Given as goal

abbrev pub invariant-loop-more : goal.invariant-loop-more
invariant-loop-more l =
    MergingTables l.fn.self l.fn.other l.rest.items l.self-inside.aggregations.items
    × (l.self-inside.none.entries ≡ [])

abbrev pub decreases-loop-more : goal.decreases-loop-more
decreases-loop-more l = length l.rest.items
