use Rattle.std.proofs.Common.{◌≡◌, drop}
use Rattle.d_types.specs.Typed.{aggs_of}
use Rattle.d_types.specs.Aggregations.{find_from}
use Rattle.d_types.proofs.aggregation.find.Given as goal

abbrev pub invariant-loop-index : goal.invariant-loop-index
invariant-loop-index l = find_from l.index l.name (aggs_of (drop l.index l.aggs)) ≡ find_from 0 l.name (aggs_of l.aggs)
