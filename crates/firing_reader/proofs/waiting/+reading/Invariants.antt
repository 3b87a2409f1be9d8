use Rattle.std.proofs.Common.{◌+◌, ◌*◌, length}
use Rattle.firing_reader.proofs.waiting.+reading.Given as goal

abbrev pub decreases-read_pieces : goal.decreases-read_pieces
decreases-read_pieces g l = 2 * length l.pieces.now

abbrev pub decreases-join_mut+arg3 : goal.decreases-join_mut+arg3
decreases-join_mut+arg3 g l = 2 * length l.others.now + 1
