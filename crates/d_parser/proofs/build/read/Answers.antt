use Rattle.std.proofs.Common.{ap, ◌∙◌}
use Rattle.d_parser.specs.Tree as spec
use Rattle.d_parser.specs.declared.tree.Expr.{items_hidden-the_row-Expr-0}
use Rattle.d_parser.specs.declared.tree.Expr.TheBlock.{hidden-the_row-Expr-0}
use Rattle.d_parser.proofs.Rows.{row_is}
use Rattle.d_parser.proofs.build.read.Goals as goal

pub returns : goal.returns
returns c = ap (spec.Read c.args.target.variable) (row_is (hidden-the_row-Expr-0 c.args.target.keys) ∙ ap spec.trees_of (items_hidden-the_row-Expr-0 c.args.target.keys))
