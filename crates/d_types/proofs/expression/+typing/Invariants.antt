use Rattle.std.proofs.Common.{◌≡◌, ◌+◌, ◌*◌, drop}
use Rattle.std.specs.Prelude.{max}
use Rattle.d_parser.specs.declared.tree.Expr.{size-Expr}
use Rattle.d_parser.specs.Tree.{trees_of}
use Rattle.d_types.specs.Typed.{typeds_of, end}
use Rattle.d_types.specs.Steps.Variables.{rows_of_entries}
use Rattle.d_types.specs.Steps.Typing as spec
use Rattle.d_types.proofs.expression.+typing.Given as goal

abbrev pub invariant-exprs-loop-e : goal.invariant-exprs-loop-e
invariant-exprs-loop-e l =
    spec.exprs (typeds_of l.done.items) (rows_of_entries l.table.items) (trees_of (drop l.e-index l.list))
    ≡ spec.exprs end (rows_of_entries l.fn.table.items) (trees_of l.list)

-- ---- how deep the trees are

abbrev pub decreases-expr : goal.decreases-expr
decreases-expr l = 3 * goal.size-expr l

abbrev pub decreases-unary_expr : goal.decreases-unary_expr
decreases-unary_expr l = 3 * goal.size-unary_expr l + 1

abbrev pub decreases-cast_expr : goal.decreases-cast_expr
decreases-cast_expr l = 3 * goal.size-cast_expr l + 1

abbrev pub decreases-binary_expr : goal.decreases-binary_expr
decreases-binary_expr l = 3 * max (size-Expr l.left.now) (size-Expr l.right.now) + 1

abbrev pub decreases-choice_expr : goal.decreases-choice_expr
decreases-choice_expr l = 3 * max (size-Expr l.test.now) (max (size-Expr l.first.now) (size-Expr l.second.now)) + 1

abbrev pub decreases-assign_rest : goal.decreases-assign_rest
decreases-assign_rest l = 3 * goal.size-assign_rest l + 1

abbrev pub decreases-assign_expr : goal.decreases-assign_expr
decreases-assign_expr l = 3 * max (goal.size-assign_expr l) (size-Expr l.value.now) + 2

abbrev pub decreases-exprs : goal.decreases-exprs
decreases-exprs l = 3 * goal.size-exprs l + 1

abbrev pub decreases-read_expr : goal.decreases-read_expr
decreases-read_expr l = 3 * goal.size-read_expr l + 2

abbrev pub decreases-call_expr : goal.decreases-call_expr
decreases-call_expr l = 3 * goal.size-call_expr l + 2

abbrev pub decreases-before_expr : goal.decreases-before_expr
decreases-before_expr l = 3 * goal.size-before_expr l + 2

abbrev pub decreases-after_expr : goal.decreases-after_expr
decreases-after_expr l = 3 * goal.size-after_expr l + 2
