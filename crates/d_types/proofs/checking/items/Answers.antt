use Rattle.d_types.proofs.Binds.{stops}
use Rattle.d_types.proofs.Tables.{front}
use Rattle.d_types.proofs.checking.items.Goals as goal

pub loop-next-preserved : goal.loop-next-preserved
loop-next-preserved c =
    rw (front c.args.list.now c.loop-next.next-index c.next-item.result c.loop-next-test.true c.next-item.is, c.in_ok-item.ensures) at c.loop-next.invariant

pub returns-in_err-item : goal.returns-in_err-item
returns-in_err-item c =
    rw (← c.loop-next.invariant, front c.args.list.now c.loop-next.next-index c.next-item.result c.loop-next-test.true c.next-item.is)
    (stops _ c.from_residual.result _ _ _ c.from_residual.ensures.1 c.in_err-item.ensures)
