use Rattle.std.proofs.Common.{List, take}
use Rattle.aggregations.specs.Table.{Contribution, StandsFor, functions_of}
use Rattle.report.specs.Steps.Output.{AppendsTables}
use Rattle.report.proofs.rendering.put_tables.Given as goal

abbrev pub invariant-loop-agg : goal.invariant-loop-agg
invariant-loop-agg g l = (contributions : List Contribution) → StandsFor l.table contributions
    → AppendsTables (take l.agg (functions_of l.table)) contributions l.fn.out.items l.out.items
