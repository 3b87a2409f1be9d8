use Rattle.std.proofs.Common.{◌+◌, ◌*◌}
use Rattle.d_parser.proofs.expression.+expression.Given as goal

abbrev pub decreases-arguments : goal.decreases-arguments
decreases-arguments l = 9 * l.fuel + 2

abbrev pub decreases-cast : goal.decreases-cast
decreases-cast l = 9 * l.fuel + 1

abbrev pub decreases-cond_tail : goal.decreases-cond_tail
decreases-cond_tail l = 9 * l.fuel + 3

abbrev pub decreases-alternatives : goal.decreases-alternatives
decreases-alternatives l = 9 * l.fuel + 2

abbrev pub decreases-binary_tail : goal.decreases-binary_tail
decreases-binary_tail l = 9 * l.fuel

abbrev pub decreases-binary_tail_on : goal.decreases-binary_tail_on
decreases-binary_tail_on l = 9 * l.fuel + 1

abbrev pub decreases-target_tail : goal.decreases-target_tail
decreases-target_tail l = 9 * l.fuel + 1

abbrev pub decreases-exprs_tail : goal.decreases-exprs_tail
decreases-exprs_tail l = 9 * l.fuel

abbrev pub decreases-exprs_tail_on : goal.decreases-exprs_tail_on
decreases-exprs_tail_on l = 9 * l.fuel + 1

abbrev pub decreases-keys : goal.decreases-keys
decreases-keys l = 9 * l.fuel + 2

abbrev pub decreases-closed_list : goal.decreases-closed_list
decreases-closed_list l = 9 * l.fuel + 1

abbrev pub decreases-unary_at_mark : goal.decreases-unary_at_mark
decreases-unary_at_mark l = 9 * l.fuel + 6

abbrev pub decreases-post_at_name : goal.decreases-post_at_name
decreases-post_at_name l = 9 * l.fuel + 5

abbrev pub decreases-unary_in_parentheses : goal.decreases-unary_in_parentheses
decreases-unary_in_parentheses l = 9 * l.fuel + 2

abbrev pub decreases-unary : goal.decreases-unary
decreases-unary l = 9 * l.fuel + 7

abbrev pub decreases-expr : goal.decreases-expr
decreases-expr l = 9 * l.fuel

abbrev pub decreases-unary_at_step : goal.decreases-unary_at_step
decreases-unary_at_step l = 9 * l.fuel + 5

abbrev pub decreases-target : goal.decreases-target
decreases-target l = 9 * l.fuel + 4

abbrev pub decreases-expr_on : goal.decreases-expr_on
decreases-expr_on l = 9 * l.fuel + 8

abbrev pub decreases-with_keys : goal.decreases-with_keys
decreases-with_keys l = 9 * l.fuel + 3
