use Rattle.std.proofs.Common.{length}
use Rattle.d_types.proofs.variables.+fit.Given as goal

abbrev pub decreases-fit : goal.decreases-fit
decreases-fit l = length l.kinds.now
