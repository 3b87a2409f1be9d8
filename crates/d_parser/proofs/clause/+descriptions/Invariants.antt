use Rattle.std.proofs.Common.{◌+◌, ◌*◌}
use Rattle.d_parser.proofs.clause.+descriptions.Given as goal

abbrev pub decreases-descriptions_tail : goal.decreases-descriptions_tail
decreases-descriptions_tail l = 2 * l.turns

abbrev pub decreases-descriptions_tail_on : goal.decreases-descriptions_tail_on
decreases-descriptions_tail_on l = 2 * l.turns + 1
