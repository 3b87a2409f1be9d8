-- The names that the definitions share: of the code's own types, and of crates below. Column
-- defines what a text of a firing is.
pub use Rattle.std.specs.BTreeSet.{contains}
pub use Rattle.std.specs.Bool.{OnFalse}
pub use Rattle.std.specs.List.{AllZip, flat_map}
pub use Rattle.std.specs.List.Sorted.{IsStrictlyIncreasing, IsStrictlySortedBy}
pub use Rattle.std.specs.Option.{option_map_or}
pub use Rattle.std.specs.Ordering.{eq_by_cmp, int_cmp}
pub use Rattle.std.specs.Prelude.{All, List, map}
pub use Rattle.std.specs.Str.{bytes_eq}
pub use Rattle.std.specs.Str.Parse.{digits_value}
pub use Rattle.csv.specs.Machine.{next_record}
pub use Rattle.csv.specs.Reading.{default_config, records, strip_bom}
pub use Rattle.firing_reader.specs.declared.fault.TraceFault.{TraceFault}
pub use Rattle.firing_reader.specs.declared.fault.TraceFault.TheVariants.{Header, Columns, Number}
pub use Rattle.firing_reader.specs.declared.fault.TraceFault.TheVariants.{Order, Text, Reserved}
pub use Rattle.firing_reader.specs.declared.fault.TraceFault.TheVariants.{TooMany, Memory}
