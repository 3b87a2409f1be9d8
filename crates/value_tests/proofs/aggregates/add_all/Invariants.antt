use Rattle.std.proofs.Common.{◌≡◌, ◌≤◌}
use Rattle.aggregations.specs.Table.{count_held, functions_of}
use Rattle.value_tests.proofs.aggregates.add_all.Given as goal

abbrev pub invariant-loop-arg : goal.invariant-loop-arg
invariant-loop-arg l = (functions_of l.table ≡ functions_of l.fn.table) × (count_held l.table ≤ l.arg-index)
