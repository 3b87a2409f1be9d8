-- The names that the definitions share: of the code's own types, and of crates below.
pub use Rattle.indexmap.specs.IndexMap.{IndexMap, Updates, get}
pub use Rattle.std.proofs.Common.{ap}
pub use Rattle.std.specs.Bool.{Decides}
pub use Rattle.std.specs.Cmp.{IsEquivalence, IsTotalOrder, decided, partial_equiv_from_equiv, po}
pub use Rattle.std.specs.Cmp.Lexicographic.{pointwise, slice_cmp}
pub use Rattle.std.specs.Hash.{u32}
pub use Rattle.std.specs.Int.{cast_signed, w64, int_shr}
pub use Rattle.std.specs.List.{flat_map}
pub use Rattle.std.specs.Map.{lookup}
pub use Rattle.std.specs.Ordering.{nat_cmp, int_cmp, eq_by_cmp, as_partial_cmp}
pub use Rattle.std.specs.Prelude.{List}
pub use Rattle.std.specs.declared.cmp.Ordering.{Ordering}
pub use Rattle.std.specs.declared.cmp.Ordering.TheVariants.{Less, Equal, Greater}
pub use Rattle.d_values.specs.declared.arithmetic.OutOfZero.{OutOfZero}
pub use Rattle.d_values.specs.declared.int_type.IntType.{IntType}
pub use Rattle.d_values.specs.declared.key.KeyPart.{KeyPart}
pub use Rattle.d_values.specs.declared.operators.ArithmeticOperator.{ArithmeticOperator}
pub use Rattle.d_values.specs.declared.operators.ComparisonOperator.{ComparisonOperator}
pub use Rattle.d_values.specs.declared.operators.ShiftOperator.{ShiftOperator}
pub use Rattle.d_values.specs.declared.value.Kind.{Kind}
pub use Rattle.d_values.specs.declared.value.Value.{Value}
pub use Rattle.d_values.specs.declared.value.ValueRef.{ValueRef}
pub use Rattle.d_values.specs.declared.variable.Var.{Var}
