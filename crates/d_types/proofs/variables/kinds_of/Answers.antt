use Rattle.std.proofs.Common.{append_assoc, append-nil}
use Rattle.std.proofs.lemmas.List.{drop_all}
use Rattle.d_types.proofs.Tables.{front}
use Rattle.d_types.proofs.variables.kinds_of.Goals as goal

pub loop-key-preserved : goal.loop-key-preserved
loop-key-preserved c =
    let inv = rw (front c.args.keys.now c.loop-key.key-index c.key-item.result c.loop-key-test.true c.key-item.is) at c.loop-key.invariant in
    rw (c.in_ok-push.ensures.items, append_assoc, c.kind_of.ensures, c.type_of.ensures) inv

pub returns : goal.returns
returns c = rw (drop_all c.loop-key.key-index c.args.keys.now c.loop-key-test.false, append-nil) at c.loop-key.invariant
