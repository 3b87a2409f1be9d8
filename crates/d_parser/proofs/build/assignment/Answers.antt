use Rattle.std.proofs.Common.{ap, ◌∙◌}
use Rattle.d_parser.specs.Tree as spec
use Rattle.d_parser.specs.declared.tree.Expr.{items_hidden-the_row-Expr-0}
use Rattle.d_parser.specs.declared.tree.Expr.TheBlock.{hidden-the_row-Expr-0}
use Rattle.d_parser.proofs.Rows.{row_is}
use Rattle.d_parser.proofs.build.assignment.Goals as goal

pub returns : goal.returns
returns c = ap (λ keys. spec.Assign c.args.operator c.args.target.variable keys (spec.tree_of c.args.value.value)) (row_is (hidden-the_row-Expr-0 c.args.target.keys) ∙ ap spec.trees_of (items_hidden-the_row-Expr-0 c.args.target.keys))
