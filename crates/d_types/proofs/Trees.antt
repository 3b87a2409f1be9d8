-- Trees with a list of parts.
use Rattle.std.proofs.Common.{◌≡◌, ℕ, List, ap, ◌∙◌, Vec, Global}
use Rattle.d_parser.specs.declared.operators.AssignOperator.{AssignOperator}
use Rattle.d_parser.specs.declared.operators.Step.{Step}
use Rattle.d_parser.specs.declared.tree.Target.{Target}
use Rattle.d_parser.specs.declared.tree.Expr.{Expr, items_hidden-the_row-Expr-0}
use Rattle.d_parser.specs.declared.tree.Expr.TheBlock.{hidden-the_row-Expr-0}
use Rattle.d_parser.specs.declared.tree.Expr.TheVariants as e
use Rattle.d_parser.specs.Tree as tree
use Rattle.d_parser.specs.Tree.{Trees, tree_of, trees_in, trees_of}
use Rattle.d_parser.proofs.Rows.{row_is}

pub parts_are : (keys : Vec Expr Global) → trees_in (hidden-the_row-Expr-0 keys) ≡ trees_of keys.items
parts_are keys = row_is (hidden-the_row-Expr-0 keys) ∙ ap trees_of (items_hidden-the_row-Expr-0 keys)

pub read_is : (t : Target) → tree_of (e.Read t) ≡ tree.Read t.variable (trees_of t.keys.items)
read_is t = ap (tree.Read t.variable) (parts_are t.keys)

pub call_is : (line : ℕ) (f : List ℕ) (args : Vec Expr Global) → tree_of (e.Call line f args) ≡ tree.Call line f (trees_of args.items)
call_is line f args = ap (tree.Call line f) (parts_are args)

pub before_is : (line : ℕ) (step : Step) (t : Target) → tree_of (e.Before line step t) ≡ tree.Before line step t.variable (trees_of t.keys.items)
before_is line step t = ap (tree.Before line step t.variable) (parts_are t.keys)

pub after_is : (t : Target) (step : Step) → tree_of (e.After t step) ≡ tree.After t.variable (trees_of t.keys.items) step
after_is t step = ap (λ (ks : Trees). tree.After t.variable ks step) (parts_are t.keys)

pub assign_is : (op : AssignOperator) (t : Target) (a : _) → tree_of (e.Assign op t a) ≡ tree.Assign op t.variable (trees_of t.keys.items) (tree_of a.value)
assign_is op t a = ap (λ (ks : Trees). tree.Assign op t.variable ks (tree_of a.value)) (parts_are t.keys)
