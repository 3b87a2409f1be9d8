-- A row of trees as a list.
use Rattle.std.proofs.Common.{◌≡◌, List, [], ◌∷◌, ◌++◌, refl, ap, map}
use Rattle.d_parser.specs.declared.tree.Expr.{Expr, Row_of-Expr, end_of-Expr, more_of-Expr}
use Rattle.d_parser.specs.declared.tree.Expr.{items-the_row-Expr}
use Rattle.d_parser.specs.declared.tree.Stmt.{Stmt}
use Rattle.d_parser.specs.declared.tree.Item.{Item}
use Rattle.d_parser.specs.Tree.{more, tree_of, trees_in, trees_of, stmt_of, stmts_of, item_of}
use Rattle.d_parser.specs.Steps.Tree.{add}

pub trees_push : (xs : List Expr) (x : Expr) → trees_of (xs ++ x ∷ []) ≡ add (trees_of xs) (tree_of x)
trees_push [] x = refl
trees_push (y ∷ xs) x = ap (more (tree_of y)) (trees_push xs x)

pub row_is : {m : _} (row : Row_of-Expr m) → trees_in row ≡ trees_of (items-the_row-Expr m row)
row_is end_of-Expr = refl
row_is (more_of-Expr a rest) = ap (more (tree_of a)) (row_is rest)

pub stmts_push : (xs : List Stmt) (x : Stmt) → stmts_of (xs ++ x ∷ []) ≡ stmts_of xs ++ stmt_of x ∷ []
stmts_push [] x = refl
stmts_push (y ∷ xs) x = ap (λ (ys : _). stmt_of y ∷ ys) (stmts_push xs x)

pub items_push : (xs : List Item) (x : Item) → map item_of (xs ++ x ∷ []) ≡ map item_of xs ++ item_of x ∷ []
items_push [] x = refl
items_push (y ∷ xs) x = ap (λ (ys : _). item_of y ∷ ys) (items_push xs x)
