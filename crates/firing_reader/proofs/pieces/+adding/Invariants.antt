use Rattle.std.proofs.Common.{length}
use Rattle.firing_reader.proofs.pieces.+adding.Given as goal

abbrev pub decreases-add_pieces : goal.decreases-add_pieces
decreases-add_pieces l = length l.pieces.now
