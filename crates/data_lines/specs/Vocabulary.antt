-- The words of the definitions and of the contracts that other crates have, from one place.
pub use Rattle.std.specs.Fmt.{decimal, digit_glyph, signed_decimal}
pub use Rattle.std.specs.List.{enumerate_from, flat_map, range_with_len}
pub use Rattle.std.specs.Map.Iter.{deref_pair}
pub use Rattle.std.specs.Str.{is_utf8}
pub use Rattle.d_values.specs.declared.key.KeyPart.{KeyPart, TheVariants.Number, TheVariants.Name}
pub use Rattle.aggregations.specs.declared.{function.AggFn.AggFn, held.Held.Held}
pub use Rattle.aggregations.specs.declared.function.AggFn.TheVariants.{Count, Sum, Min, Max, Avg}
pub use Rattle.aggregations.specs.declared.function.AggFn.TheVariants.{Quantize, Lquantize}
pub use Rattle.aggregations.specs.declared.held.Held.TheVariants.{Counted, Summed, Least, Greatest}
pub use Rattle.aggregations.specs.declared.held.Held.TheVariants.{Mean, Counts}
pub use Rattle.aggregations.specs.declared.linear_range.LinearRange.{LinearRange}
pub use Rattle.aggregations.specs.declared.scale.Scale.{Scale}
pub use Rattle.aggregations.specs.declared.scale.Scale.TheVariants.{Powers, Steps}
pub use Rattle.aggregations.specs.Buckets.{buckets, label, levels_of, scale_of}
pub use Rattle.aggregations.specs.Histograms.{Histogram}
pub use Rattle.aggregations.specs.Table.{Contribution, StandsFor, functions_of}
pub use Rattle.d_types.specs.Typed.{Agg, Aggs}
pub use Rattle.report.specs.Entry.{Entry}
pub use Rattle.report.specs.Listing.{IsListing}
