use Rattle.std.proofs.Common.{◌≡◌, [], drop, map}
use Rattle.d_parser.specs.Tree.{item_of}
use Rattle.d_types.specs.Typed.{meant_of, aggs_of}
use Rattle.d_types.specs.Steps.Variables.{rows_of_entries}
use Rattle.d_types.specs.Steps.Scripts as spec
use Rattle.d_types.proofs.checking.items.Given as goal

abbrev pub invariant-loop-next : goal.invariant-loop-next
invariant-loop-next l =
    spec.items (map meant_of l.done.items) (rows_of_entries l.table.items) (aggs_of l.aggs.items) (map item_of (drop l.next-index l.list))
    ≡ spec.items [] (rows_of_entries l.fn.table.items) (aggs_of l.fn.aggs.items) (map item_of l.list)
