-- Trees, as values.
-- Source: Dynamic Tracing Guide, "D Program Structure" and "Types, Operators, and Expressions".
use Rattle.std.specs.Prelude.{ℕ, List, [], ◌∷◌, map, Option, Some, None}
use Rattle.d_parser.specs.Vocabulary.{UnaryOperator, BinaryOperator, AssignOperator, Step}
use Rattle.d_parser.specs.Vocabulary.{IntegerType, Variable, Constant, Expr, Row_of-Expr}
use Rattle.d_parser.specs.Vocabulary.{end_of-Expr, more_of-Expr, DeclaredType, Description}
use Rattle.d_parser.specs.Vocabulary.{Declaration, Stmt, Clause, Item, Script}

-- an expression; numbers are lines
mutual
  pub data Tree : Type 0 where
    Known : ℕ → Constant → Tree
    Read : Variable → Trees → Tree
    Call : ℕ → List ℕ → Trees → Tree
    Unary : ℕ → UnaryOperator → Tree → Tree
    Cast : ℕ → IntegerType → Tree → Tree
    Before : ℕ → Step → Variable → Trees → Tree
    After : Variable → Trees → Step → Tree
    Binary : BinaryOperator → Tree → Tree → Tree
    Choice : Tree → Tree → Tree → Tree
    Assign : AssignOperator → Variable → Trees → Tree → Tree

  -- a list of them
  pub data Trees : Type 0 where
    end : Trees
    more : Tree → Trees → Trees

abbrev mutual
  pub tree_of : Expr → Tree
  tree_of (Expr.Constant line c) = Known line c
  tree_of (Expr.Read' v shape keys) = Read v (trees_in keys)
  tree_of (Expr.Call' line f shape all) = Call line f (trees_in all)
  tree_of (Expr.Unary' line op p a) = Unary line op (tree_of a)
  tree_of (Expr.Cast' line to p a) = Cast line to (tree_of a)
  tree_of (Expr.Before' line step v shape keys) = Before line step v (trees_in keys)
  tree_of (Expr.After' v shape keys step) = After v (trees_in keys) step
  tree_of (Expr.Binary' op p a q b) = Binary op (tree_of a) (tree_of b)
  tree_of (Expr.Choice' p c q a r b) = Choice (tree_of c) (tree_of a) (tree_of b)
  tree_of (Expr.Assign' op v shape keys p a) = Assign op v (trees_in keys) (tree_of a)

  pub trees_in : {m : _} → Row_of-Expr m → Trees
  trees_in end_of-Expr = end
  trees_in (more_of-Expr a rest) = more (tree_of a) (trees_in rest)

abbrev pub trees_of : List Expr → Trees
trees_of [] = end
trees_of (a ∷ rest) = more (tree_of a) (trees_of rest)

-- ---- statements, clauses and declarations

pub data StmtTree : Type 0 where
  Expression : Tree → StmtTree
  Aggregation : (line : ℕ) (name : List ℕ) (keys : Trees) (function : List ℕ) (arguments : Trees)
      → StmtTree

pub data DeclarationTree : Type 0 where
  OfThread : (line : ℕ) (declared : DeclaredType) (name : List ℕ) (keys : List DeclaredType)
      → DeclarationTree
  OfClause : (line : ℕ) (declared : DeclaredType) (name : List ℕ) → DeclarationTree

pub record ClauseTree : Type 0 where
  pub descriptions : List Description
  pub predicate : Option Tree
  pub statements : List StmtTree

pub data ItemTree : Type 0 where
  Declared : DeclarationTree → ItemTree
  Probing : ClauseTree → ItemTree

abbrev pub stmt_of : Stmt → StmtTree
stmt_of (Stmt.Expression t) = Expression (tree_of t)
stmt_of (Stmt.Aggregation line name keys function arguments) =
    Aggregation line name (trees_of keys.items) function (trees_of arguments.items)

abbrev pub declaration_of : Declaration → DeclarationTree
declaration_of (Declaration.Thread line declared name keys) = OfThread line declared name keys.items
declaration_of (Declaration.Clause line declared name) = OfClause line declared name

abbrev pub predicate_of : Option Expr → Option Tree
predicate_of None = None
predicate_of (Some t) = Some (tree_of t)

abbrev pub stmts_of : List Stmt → List StmtTree
stmts_of all = map stmt_of all

abbrev pub clause_of : Clause → ClauseTree
clause_of c = record {
  descriptions = c.descriptions.items;
  predicate = predicate_of c.predicate;
  statements = stmts_of c.statements.items;
}

abbrev pub item_of : Item → ItemTree
item_of (Item.Declaration d) = Declared (declaration_of d)
item_of (Item.Clause c) = Probing (clause_of c)

abbrev pub script_of : Script → List ItemTree
script_of script = map item_of script.items.items
