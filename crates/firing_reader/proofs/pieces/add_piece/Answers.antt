use Rattle.std.proofs.Common.{rules}
use Rattle.firing_reader.proofs.WaitingRows.{piece_after}
use Rattle.firing_reader.proofs.pieces.add_piece.Goals as goal

pub returns : goal.returns
returns c = piece_after c.args.firings.now c.args.bytes.now c.args.piece.now.firings c.append.new.self c.args.piece.now.passed c.requires.piece (c.goes_after.ensures.few (search rules)) (c.goes_after.ensures.rises (search rules)) c.in_ok-append.ensures
