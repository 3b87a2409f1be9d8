-- Scripts whose numbers are below 2 ^ 64, as in each text.
use Rattle.std.specs.Prelude.{◌<◌, ◌^◌, List, [], ◌∷◌, Option, Some, None}
use Rattle.d_parser.specs.Vocabulary.{Constant}
use Rattle.d_parser.specs.Tree.{Tree, Known, Read, Call, Unary, Cast, Before, After, Binary, Choice}
use Rattle.d_parser.specs.Tree.{Assign, Trees, end, more, StmtTree, Expression, Aggregation}
use Rattle.d_parser.specs.Tree.{ItemTree, Declared, Probing}

abbrev pub IsSmall : Constant → Type 0
IsSmall (Constant.Number value suffix) = value < 2 ^ 64
IsSmall (Constant.Text bytes) = Unit {0}

abbrev mutual
  pub HasSmall : Tree → Type 0
  HasSmall (Known line constant) = IsSmall constant
  HasSmall (Read x keys) = HaveSmall keys
  HasSmall (Call line name arguments) = HaveSmall arguments
  HasSmall (Unary line op a) = HasSmall a
  HasSmall (Cast line to a) = HasSmall a
  HasSmall (Before line step x keys) = HaveSmall keys
  HasSmall (After x keys step) = HaveSmall keys
  HasSmall (Binary op a b) = HasSmall a × HasSmall b
  HasSmall (Choice test a b) = HasSmall test × HasSmall a × HasSmall b
  HasSmall (Assign op x keys a) = HaveSmall keys × HasSmall a

  pub HaveSmall : Trees → Type 0
  HaveSmall end = Unit {0}
  HaveSmall (more a rest) = HasSmall a × HaveSmall rest

abbrev pub InPredicate : Option Tree → Type 0
InPredicate None = Unit {0}
InPredicate (Some t) = HasSmall t

abbrev pub InStatement : StmtTree → Type 0
InStatement (Expression t) = HasSmall t
InStatement (Aggregation line name keys function arguments) = HaveSmall keys × HaveSmall arguments

abbrev pub InStatements : List StmtTree → Type 0
InStatements [] = Unit {0}
InStatements (t ∷ rest) = InStatement t × InStatements rest

-- each number of the script is below 2 ^ 64
abbrev pub AreSmall : List ItemTree → Type 0
AreSmall [] = Unit {0}
AreSmall (Declared d ∷ rest) = AreSmall rest
AreSmall (Probing c ∷ rest) = InPredicate c.predicate × InStatements c.statements × AreSmall rest
