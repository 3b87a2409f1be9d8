use Rattle.d_values.proofs.Narrowing.{high, plain, lower}
use Rattle.d_values.proofs.word.narrow_word.Goals as goal
use Rattle.d_values.proofs.word.narrow_word.Goals.{else-t-via-then-t+else-size-low}
use Rattle.d_values.proofs.word.narrow_word.Goals.{else-t-via-else-t}

pub returns-then-size-low : goal.returns-then-size-low
returns-then-size-low c = high c.args.t c.args.word c.if-t-eq64.false c.if-t.true c.if-size-low.true

pub returns-else-t : goal.returns-else-t
returns-else-t c =
    elim c.else-t.branch [
      | else-t-via-then-t+else-size-low w ↦ lower c.args.t c.args.word c.if-t-eq64.false w.if-size-low.false
      | else-t-via-else-t w ↦ plain c.args.t c.args.word c.if-t-eq64.false w.if-t.false
    ]
