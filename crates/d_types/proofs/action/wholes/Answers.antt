use Rattle.d_types.proofs.Binds.{spent, stops}
use Rattle.d_types.proofs.Rows.{typeds_push}
use Rattle.d_types.proofs.Tables.{front}
use Rattle.d_types.proofs.action.wholes.Goals as goal

pub loop-e-preserved : goal.loop-e-preserved
loop-e-preserved c =
    let inv = rw (front c.args.list.now c.loop-e.e-index c.e-item.result c.loop-e-test.true c.e-item.is, c.in_ok-x.ensures) at c.loop-e.invariant in
    rw (c.in_ok-push.ensures.items, typeds_push) inv

pub returns-in_err-x : goal.returns-in_err-x
returns-in_err-x c =
    rw (← c.loop-e.invariant, front c.args.list.now c.loop-e.e-index c.e-item.result c.loop-e-test.true c.e-item.is)
    (stops _ c.from_residual.result _ _ _ c.from_residual.ensures.1 c.in_err-x.ensures)

pub returns-in_err-push : goal.returns-in_err-push
returns-in_err-push c = spent _ _ _ c.from_residual-in_err-push.ensures.1
