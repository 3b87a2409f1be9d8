use Rattle.std.proofs.Common.{ap, ◌∙◌}
use Rattle.d_parser.specs.Tree.{tree_of}
use Rattle.d_types.proofs.Binds.{spent, stops}
use Rattle.d_types.proofs.Trees.{read_is, call_is, before_is, after_is, assign_is}
use Rattle.d_types.proofs.Rows.{typeds_push}
use Rattle.d_types.proofs.Tables.{front}
use Rattle.d_types.proofs.expression.+typing.Goals as goal

pub exprs-loop-e-preserved : goal.exprs-loop-e-preserved
exprs-loop-e-preserved t c =
    let inv = rw (front c.args.list.now c.loop-e.e-index c.e-item.result c.loop-e-test.true c.e-item.is, c.in_ok-x.ensures) at c.loop-e.invariant in
    rw (c.in_ok-push.ensures.items, typeds_push) inv

pub expr-returns-in-Read : goal.expr-returns-in-Read
expr-returns-in-Read t c = rw (ap tree_of c.in-Read.is ∙ read_is c.in-Read.target) c.read_expr.ensures

pub expr-returns-in-Call : goal.expr-returns-in-Call
expr-returns-in-Call t c = rw (ap tree_of c.in-Call.is ∙ call_is c.in-Call.line c.in-Call.function c.in-Call.arguments, ← c.as_slice.ensures, ← c.deref.ensures.value) c.call_expr.ensures

pub expr-returns-in-Before : goal.expr-returns-in-Before
expr-returns-in-Before t c = rw (ap tree_of c.in-Before.is ∙ before_is c.in-Before.line c.in-Before.step c.in-Before.target) c.before_expr.ensures

pub expr-returns-in-After : goal.expr-returns-in-After
expr-returns-in-After t c = rw (ap tree_of c.in-After.is ∙ after_is c.in-After.target c.in-After.step) c.after_expr.ensures

pub expr-returns-in-Assign : goal.expr-returns-in-Assign
expr-returns-in-Assign t c = rw (ap tree_of c.in-Assign.is ∙ assign_is c.in-Assign.operator c.in-Assign.target c.in-Assign.value, ← c.deref-in-Assign.ensures) c.assign_expr.ensures

pub unary_expr-returns-in_err-x : goal.unary_expr-returns-in_err-x
unary_expr-returns-in_err-x t c = stops _ c.from_residual.result _ _ _ c.from_residual.ensures.1 c.in_err-x.ensures

pub cast_expr-returns-in_err-x : goal.cast_expr-returns-in_err-x
cast_expr-returns-in_err-x t c = stops _ c.from_residual.result _ _ _ c.from_residual.ensures.1 c.in_err-x.ensures

pub call_expr-returns-in_err-args : goal.call_expr-returns-in_err-args
call_expr-returns-in_err-args t c = stops _ c.from_residual.result _ _ _ c.from_residual.ensures.1 c.in_err-args.ensures

pub binary_expr-returns-in_err-x : goal.binary_expr-returns-in_err-x
binary_expr-returns-in_err-x t c = stops _ c.from_residual.result _ _ _ c.from_residual.ensures.1 c.in_err-x.ensures

pub choice_expr-returns-in_err-x : goal.choice_expr-returns-in_err-x
choice_expr-returns-in_err-x t c = stops _ c.from_residual.result _ _ _ c.from_residual.ensures.1 c.in_err-x.ensures

pub exprs-returns-in_err-x : goal.exprs-returns-in_err-x
exprs-returns-in_err-x t c =
    rw (← c.loop-e.invariant, front c.args.list.now c.loop-e.e-index c.e-item.result c.loop-e-test.true c.e-item.is)
    (stops _ c.from_residual.result _ _ _ c.from_residual.ensures.1 c.in_err-x.ensures)

pub exprs-returns-in_err-push : goal.exprs-returns-in_err-push
exprs-returns-in_err-push t c = spent _ _ _ c.from_residual-in_err-push.ensures.1
