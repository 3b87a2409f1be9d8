use Rattle.std.proofs.Common.{arith, ap, length}
use Rattle.firing_reader.proofs.pieces.read_piece.Goals as goal

pub returns : goal.returns
returns c =
    let some = ap length c.requires.2 in
    record { piece = rw c.clear.ensures at c.read_plain-piece.ensures; end = omega (arith, some) }
