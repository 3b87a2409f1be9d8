-- The words of the definitions and of the contracts, from one place: those of crates below, and of
-- the functions.
pub use Rattle.std.specs.List.{IsDistinct}
pub use Rattle.std.specs.Map.{keys_of}
pub use Rattle.std.specs.Map.Iter.{deref_pair}
pub use Rattle.std.specs.Prelude.{List, ◌≤◌, ◌^◌}
pub use Rattle.d_values.specs.{declared.key.KeyPart.KeyPart, Keys.same_key, Outcomes.AllOrNothing}
pub use Rattle.numbered.specs.Indices.{IsAt, IsFound}
pub use Rattle.aggregations.specs.declared.linear_range.LinearRange.{LinearRange}
pub use Rattle.aggregations.specs.declared.function.AggFn.{AggFn}
pub use Rattle.aggregations.specs.declared.function.AggFn.TheVariants.{Count, Sum, Min, Max, Avg}
pub use Rattle.aggregations.specs.declared.function.AggFn.TheVariants.{Quantize, Lquantize}
pub use Rattle.aggregations.specs.declared.scale.Scale.{Scale}
pub use Rattle.aggregations.specs.declared.scale.Scale.TheVariants.{Powers, Steps}
