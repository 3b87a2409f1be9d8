-- The names that the definitions share: of the code's own types, and of crates below.
pub use Rattle.d_lexer.specs.declared.token.Mark.{Mark}
pub use Rattle.d_lexer.specs.declared.token.Token.{Token}
pub use Rattle.d_lexer.specs.declared.token.TokenKind.{TokenKind}
pub use Rattle.std.specs.Str.{bytes_eq}
pub use Rattle.d_parser.specs.declared.fault.ParseFault.{ParseFault}
pub use Rattle.d_parser.specs.declared.limits.TheConstants.{MAX_OPEN, MAX_IN_A_ROW, MAX_CLAUSES}
pub use Rattle.d_parser.specs.declared.marks.Follow.{Follow}
pub use Rattle.d_parser.specs.declared.marks.Prefix.{Prefix}
pub use Rattle.d_parser.specs.declared.marks.TheConstants.{ASSIGNMENT, CONDITION, OR, XOR, AND}
pub use Rattle.d_parser.specs.declared.marks.TheConstants.{BIT_OR, BIT_XOR, BIT_AND, EQUALITY}
pub use Rattle.d_parser.specs.declared.marks.TheConstants.{RELATIONAL, SHIFT, ADDITIVE}
pub use Rattle.d_parser.specs.declared.marks.TheConstants.{MULTIPLICATIVE, UNARY}
pub use Rattle.d_parser.specs.declared.operators.AssignOperator.{AssignOperator}
pub use Rattle.d_parser.specs.declared.operators.BinaryOperator.{BinaryOperator}
pub use Rattle.d_parser.specs.declared.operators.Step.{Step}
pub use Rattle.d_parser.specs.declared.operators.UnaryOperator.{UnaryOperator}
pub use Rattle.d_parser.specs.declared.tree.Clause.{Clause}
pub use Rattle.d_parser.specs.declared.tree.Constant.{Constant}
pub use Rattle.d_parser.specs.declared.tree.Declaration.{Declaration}
pub use Rattle.d_parser.specs.declared.tree.DeclaredType.{DeclaredType}
pub use Rattle.d_parser.specs.declared.tree.Description.{Description}
pub use Rattle.d_parser.specs.declared.tree.Expr.{Expr, Row_of-Expr, end_of-Expr, more_of-Expr}
pub use Rattle.d_parser.specs.declared.tree.IntegerType.{IntegerType}
pub use Rattle.d_parser.specs.declared.tree.Item.{Item}
pub use Rattle.d_parser.specs.declared.tree.Script.{Script}
pub use Rattle.d_parser.specs.declared.tree.Stmt.{Stmt}
pub use Rattle.d_parser.specs.declared.tree.Target.{Target}
pub use Rattle.d_parser.specs.declared.tree.Variable.{Variable}
pub use Rattle.d_parser.specs.declared.words.WordKind.{WordKind}
