use Rattle.std.proofs.Common.{arith}
use Rattle.std.proofs.lemmas.List.{take_rest}
use Rattle.firing_reader.proofs.WaitingRows.{pieces_after}
use Rattle.firing_reader.proofs.pieces.+adding.Goals as goal

pub returns : goal.returns
returns t c =
    let (begins, others) = rw c.in-Some.ensures.cases.0 at c.requires in
    let bytes = c.args.bytes.now in
    let p = c.in-Some.piece.now in
    pieces_after c.args.firings.now bytes p c.add_piece.new.firings c.add_pieces.new.firings c.in_ok-passed.passed c.in_ok-more.more begins c.in_ok-passed.ensures (omega (arith, c.if-passed-piece.false)) (rw (take_rest bytes p.end) at c.in_ok-more.ensures)
