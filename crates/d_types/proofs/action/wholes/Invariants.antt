use Rattle.std.proofs.Common.{◌≡◌, drop}
use Rattle.d_parser.specs.Tree.{trees_of}
use Rattle.d_types.specs.Typed.{typeds_of, end}
use Rattle.d_types.specs.Steps.Variables.{rows_of_entries}
use Rattle.d_types.specs.Steps.Statements as spec
use Rattle.d_types.proofs.action.wholes.Given as goal

abbrev pub invariant-loop-e : goal.invariant-loop-e
invariant-loop-e l =
    spec.wholes (typeds_of l.done.items) (rows_of_entries l.table.items) (trees_of (drop l.e-index l.list))
    ≡ spec.wholes end (rows_of_entries l.fn.table.items) (trees_of l.list)
