-- How large a script's tree is.
use Rattle.std.specs.Prelude.{ℕ, suc, ◌+◌, ◌≤◌, List, [], ◌∷◌, length, Option, Some, None}
use Rattle.d_parser.specs.Tree.{Tree, Known, Read, Call, Unary, Cast, Before, After, Binary, Choice}
use Rattle.d_parser.specs.Tree.{Assign, Trees, end, more}
use Rattle.d_parser.specs.Tree.{StmtTree, Expression, Aggregation, ItemTree, Declared, Probing}

-- a number of each, added up
abbrev pub in_all : {A : Type 0} → (A → ℕ) → List A → ℕ
in_all f [] = 0
in_all f (x ∷ xs) = f x + in_all f xs

-- the places of variables in an expression
abbrev mutual
  pub places : Tree → ℕ
  places (Known line constant) = 0
  places (Read x keys) = suc (places_in keys)
  places (Call line name arguments) = places_in arguments
  places (Unary line op a) = places a
  places (Cast line to a) = places a
  places (Before line step x keys) = suc (places_in keys)
  places (After x keys step) = suc (places_in keys)
  places (Binary op a b) = places a + places b
  places (Choice test a b) = places test + places a + places b
  places (Assign op x keys a) = suc (places_in keys) + places a

  pub places_in : Trees → ℕ
  places_in end = 0
  places_in (more a rest) = places a + places_in rest

abbrev pub in_predicate : Option Tree → ℕ
in_predicate None = 0
in_predicate (Some t) = places t

abbrev pub in_stmt : StmtTree → ℕ
in_stmt (Expression t) = places t
in_stmt (Aggregation line name keys function arguments) = places_in keys + places_in arguments

-- the declarations and the places of variables
abbrev pub variables : ItemTree → ℕ
variables (Declared d) = 1
variables (Probing c) = in_predicate c.predicate + in_all in_stmt c.statements

abbrev pub descriptions : ItemTree → ℕ
descriptions (Declared d) = 0
descriptions (Probing c) = length c.descriptions

abbrev pub statements : ItemTree → ℕ
statements (Declared d) = 0
statements (Probing c) = length c.statements

-- each is at most n in the whole script
pub record IsWithin (n : ℕ) (script : List ItemTree) : Type 0 where
  pub few_descriptions : in_all descriptions script ≤ n
  pub few_statements : in_all statements script ≤ n
  pub few_variables : in_all variables script ≤ n
