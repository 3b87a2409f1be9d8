use Rattle.std.proofs.Common.{◌+◌, ◌*◌}
use Rattle.d_parser.proofs.declaration.+types.Given as goal

abbrev pub decreases-types_tail : goal.decreases-types_tail
decreases-types_tail l = 2 * l.turns

abbrev pub decreases-types_tail_on : goal.decreases-types_tail_on
decreases-types_tail_on l = 2 * l.turns + 1
