-- The words of the definitions and of the contracts that other crates have, from one place.
pub use Rattle.std.specs.Fmt.{decimal, signed_decimal}
pub use Rattle.std.specs.List.{enumerate_from, flat_map}
pub use Rattle.std.specs.List.Sorted.{IsStrictlySortedBy}
pub use Rattle.std.specs.Map.Iter.{deref_pair}
pub use Rattle.std.specs.Ordering.{int_cmp, ordering_then}
pub use Rattle.std.specs.declared.cmp.Ordering.{Ordering, TheVariants.Less}
pub use Rattle.d_values.specs.Keys.{key_cmp}
pub use Rattle.d_values.specs.declared.key.KeyPart.{KeyPart, TheVariants.Number, TheVariants.Name}
pub use Rattle.aggregations.specs.declared.{function.AggFn.AggFn, held.Held.Held}
pub use Rattle.aggregations.specs.declared.scale.Scale.{Scale}
pub use Rattle.aggregations.specs.declared.scale.Scale.TheVariants.{Powers, Steps}
pub use Rattle.aggregations.specs.Buckets.{buckets, label, levels_of}
pub use Rattle.aggregations.specs.Histograms.{Histogram}
pub use Rattle.aggregations.specs.Figures.{Figure, Figure.Single, Figure.Distribution}
pub use Rattle.aggregations.specs.Figures.{figure_of, rank_of}
pub use Rattle.aggregations.specs.Table.{Contribution, AreEntries, StandsFor, functions_of}
