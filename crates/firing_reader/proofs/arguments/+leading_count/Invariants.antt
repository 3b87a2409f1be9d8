use Rattle.std.proofs.Common.{length}
use Rattle.firing_reader.proofs.arguments.+leading_count.Given as goal

abbrev pub decreases-leading_count : goal.decreases-leading_count
decreases-leading_count l = length l.args.now
