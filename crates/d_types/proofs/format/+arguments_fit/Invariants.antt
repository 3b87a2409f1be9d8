use Rattle.std.proofs.Common.{length}
use Rattle.d_types.proofs.format.+arguments_fit.Given as goal

abbrev pub decreases-arguments_fit : goal.decreases-arguments_fit
decreases-arguments_fit l = length l.pieces.now
