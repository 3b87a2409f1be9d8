use Rattle.std.proofs.Common.{arith, length-append, ◌∷◌, []}
use Rattle.firing_reader.proofs.PlainRows.{goes_first, goes_row, leaves_first, leaves_row}
use Rattle.firing_reader.proofs.plain.take_plain.Goals as goal

pub loop-init : goal.loop-init
loop-init c = record { begins = c.requires; left = leaves_first _ c.requires; read = goes_first _ _; few = omega (arith, c.len-counter.ensures) }

pub loop-preserved : goal.loop-preserved
loop-preserved c =
    let (f, pushed, row, rises) = c.in-Some.ensures in
    let more = length-append c.loop.firings (f ∷ []) in
    record {
      begins = (row.end, row.after, row.is_rest, row.ends);
      left = leaves_row c.args.bytes.now c.loop.rest.now f c.in-Some.after.now c.loop.invariant.left row;
      read = rw pushed (goes_row c.args.firings.now c.args.bytes.now c.loop.firings c.loop.rest.now f c.in-Some.after.now row rises (omega arith) c.loop.invariant.read);
      few = rw pushed (omega arith);
    }
