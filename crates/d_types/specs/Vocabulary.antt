-- The names that the definitions share: of the code's own types, and of crates below.
pub use Rattle.aggregations.specs.LinearRanges.{linear_range}
pub use Rattle.aggregations.specs.Table.{Contribution, contribution}
pub use Rattle.aggregations.specs.declared.function.AggFn.{AggFn}
pub use Rattle.aggregations.specs.declared.linear_range.TheConstants.{MAX_STEP}
pub use Rattle.d_lexer.specs.declared.fault.TheConstants.{MAX_BYTES}
pub use Rattle.d_lexer.specs.declared.token.Suffix.{Suffix}
pub use Rattle.d_parser.specs.Numbers.{AreSmall}
pub use Rattle.d_parser.specs.Sizes.{IsWithin, in_all}
pub use Rattle.d_parser.specs.Tree.{Tree, Trees, DeclarationTree, StmtTree, ItemTree, ClauseTree}
pub use Rattle.d_parser.specs.Tree.{tree_of, trees_of, item_of, script_of, stmt_of, stmts_of}
pub use Rattle.d_parser.specs.Tree.{predicate_of, clause_of, declaration_of}
pub use Rattle.d_parser.specs.declared.operators.AssignOperator.{AssignOperator}
pub use Rattle.d_parser.specs.declared.operators.BinaryOperator.{BinaryOperator}
pub use Rattle.d_parser.specs.declared.operators.Step.{Step}
pub use Rattle.d_parser.specs.declared.operators.UnaryOperator.{UnaryOperator}
pub use Rattle.d_parser.specs.declared.tree.Constant.{Constant}
pub use Rattle.d_parser.specs.declared.tree.DeclaredType.{DeclaredType}
pub use Rattle.d_parser.specs.declared.tree.Description.{Description}
pub use Rattle.d_parser.specs.declared.tree.IntegerType.{IntegerType}
pub use Rattle.d_values.specs.Numbers.{IsNumber, bits_of}
pub use Rattle.d_values.specs.Operators.{holds_of}
pub use Rattle.d_values.specs.Stores.{blank}
pub use Rattle.d_values.specs.Texts.{text_cmp, joined_text, longest}
pub use Rattle.d_values.specs.Types.{INT8, INT16, INT32, INT64, UINT8, UINT16, UINT32, UINT64}
pub use Rattle.d_values.specs.Types.{common_of, promoted_of}
pub use Rattle.d_values.specs.Words.{narrow, binary_of, shift_of}
pub use Rattle.d_values.specs.Words.{order_of, sum_of, difference_of, divides}
pub use Rattle.d_values.specs.declared.arithmetic.OutOfZero.{OutOfZero}
pub use Rattle.d_values.specs.declared.int_type.DType.{DType}
pub use Rattle.d_values.specs.declared.int_type.DType.TheVariants.{Int, Text}
pub use Rattle.d_values.specs.declared.int_type.IntType.{IntType}
pub use Rattle.d_values.specs.declared.key.KeyPart.{KeyPart}
pub use Rattle.d_values.specs.declared.operators.ArithmeticOperator.{ArithmeticOperator}
pub use Rattle.d_values.specs.declared.operators.ComparisonOperator.{ComparisonOperator}
pub use Rattle.d_values.specs.declared.operators.ShiftOperator.{ShiftOperator}
pub use Rattle.d_values.specs.declared.value.Kind.{Kind}
pub use Rattle.d_values.specs.declared.value.Value.{Value}
pub use Rattle.d_values.specs.declared.variable.Var.{Var}
pub use Rattle.firings.specs.declared.firing.Firing.{Firing}
pub use Rattle.std.specs.Fmt.{decimal}
pub use Rattle.std.specs.Int.{cast_signed, w64, cast_unsigned}
pub use Rattle.std.specs.Option.{option_map}
pub use Rattle.std.specs.Ordering.{int_eq}
pub use Rattle.std.specs.Str.{bytes_eq}
pub use Rattle.d_types.specs.declared.effect.Effect.{Effect}
pub use Rattle.d_types.specs.declared.fault.TypeFault.{TypeFault}
pub use Rattle.d_types.specs.declared.format.Flags.{Flags}
pub use Rattle.d_types.specs.declared.format.Place.{Place}
pub use Rattle.d_types.specs.declared.limits.TheConstants.{MAX_WIDTH}
pub use Rattle.d_types.specs.declared.limits.TheConstants.{MAX_NEED}
pub use Rattle.d_types.specs.declared.typed.Answer.{Answer}
pub use Rattle.d_types.specs.declared.typed.BuiltIn.{BuiltIn}
pub use Rattle.d_types.specs.declared.typed.Conversion.{Conversion}
pub use Rattle.d_types.specs.declared.typed.Letter.{Letter}
pub use Rattle.d_parser.specs.declared.operators.LogicOperator.{LogicOperator}
pub use Rattle.d_types.specs.declared.typed.Operation.{Operation}
pub use Rattle.d_types.specs.declared.typed.Piece.{Piece}
pub use Rattle.d_types.specs.declared.typed.Space.{Space}
pub use Rattle.d_types.specs.declared.typed.TypedAggregation.{TypedAggregation}
pub use Rattle.d_types.specs.declared.typed.TypedClause.{TypedClause}
pub use Rattle.d_types.specs.declared.typed.TypedExpr.{TypedExpr, Row_of-TypedExpr}
pub use Rattle.d_types.specs.declared.typed.TypedExpr.{end_of-TypedExpr, more_of-TypedExpr}
pub use Rattle.d_types.specs.declared.typed.TypedStmt.{TypedStmt}
pub use Rattle.d_types.specs.declared.typed.Variable.{Variable}
pub use Rattle.d_types.specs.declared.variables.Entry.{Entry}
pub use Rattle.d_types.specs.declared.limits.TheConstants.{MAX_KEYS}
pub use Rattle.d_types.specs.declared.words.Aggregating.{Aggregating}
pub use Rattle.d_types.specs.declared.words.Callee.{Callee}
