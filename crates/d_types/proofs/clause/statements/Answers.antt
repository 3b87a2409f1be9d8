use Rattle.d_types.proofs.Binds.{spent, stops}
use Rattle.d_types.proofs.Lists.{actions_push}
use Rattle.d_types.proofs.Tables.{front}
use Rattle.d_types.proofs.clause.statements.Goals as goal

pub loop-stmt-preserved : goal.loop-stmt-preserved
loop-stmt-preserved c =
    let inv = rw (front c.args.list.now c.loop-stmt.stmt-index c.stmt-item.result c.loop-stmt-test.true c.stmt-item.is, c.in_ok-typed.ensures) at c.loop-stmt.invariant in
    rw (c.in_ok-push.ensures.items, actions_push) inv

pub returns-in_err-typed : goal.returns-in_err-typed
returns-in_err-typed c =
    rw (← c.loop-stmt.invariant, front c.args.list.now c.loop-stmt.stmt-index c.stmt-item.result c.loop-stmt-test.true c.stmt-item.is)
    (stops _ c.from_residual.result _ _ _ c.from_residual.ensures.1 c.in_err-typed.ensures)

pub returns-in_err-push : goal.returns-in_err-push
returns-in_err-push c = spent _ _ _ c.from_residual-in_err-push.ensures.1
