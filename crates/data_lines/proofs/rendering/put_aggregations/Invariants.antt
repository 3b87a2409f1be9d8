use Rattle.std.proofs.Common.{List, take}
use Rattle.std.specs.List.{enumerate_from}
use Rattle.aggregations.specs.Table.{Contribution, StandsFor}
use Rattle.d_types.specs.Typed.{aggs_of}
use Rattle.data_lines.specs.Steps.Runs.{AppendsListed}
use Rattle.data_lines.proofs.rendering.put_aggregations.Given as goal

abbrev pub invariant-loop-index : goal.invariant-loop-index
invariant-loop-index l = (contributions : List Contribution) → StandsFor l.table contributions
    → AppendsListed (take l.index (enumerate_from 0 (aggs_of l.aggregations))) contributions l.fn.out.items l.out.items
