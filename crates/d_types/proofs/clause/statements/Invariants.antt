use Rattle.std.proofs.Common.{◌≡◌, [], drop}
use Rattle.d_parser.specs.Tree.{stmts_of}
use Rattle.d_types.specs.Typed.{actions_of, aggs_of}
use Rattle.d_types.specs.Steps.Variables.{rows_of_entries}
use Rattle.d_types.specs.Steps.Scripts as spec
use Rattle.d_types.proofs.clause.statements.Given as goal

abbrev pub invariant-loop-stmt : goal.invariant-loop-stmt
invariant-loop-stmt l =
    spec.statements (actions_of l.done.items) (rows_of_entries l.table.items) (aggs_of l.aggs.items) (stmts_of (drop l.stmt-index l.list))
    ≡ spec.statements [] (rows_of_entries l.fn.table.items) (aggs_of l.fn.aggs.items) (stmts_of l.list)
