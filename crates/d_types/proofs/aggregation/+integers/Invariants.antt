use Rattle.std.proofs.Common.{length}
use Rattle.d_types.proofs.aggregation.+integers.Given as goal

abbrev pub decreases-integers : goal.decreases-integers
decreases-integers l = length l.args.now
