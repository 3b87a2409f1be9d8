-- The names that the definitions of groups and of numbers share, from one place.
pub use mathlib.Core.Option.{some}
pub use lib.ListN.{get_elem?}
pub use Rattle.std.specs.List.{list_any, position_from, zip}
pub use Rattle.std.specs.List.Sorted.{IsStrictlySortedBy, IsStrictlySortedBy-prop}
pub use Rattle.std.specs.Map.{lookup}
pub use Rattle.std.specs.Option.{option_or}
pub use Rattle.std.specs.Ordering.{int_cmp, int_eq}
pub use Rattle.std.specs.declared.alloc.Global.{Global}
pub use Rattle.crossbeam_queue.specs.Passes.{IsPassOf, Pass, view as pass_view}
pub use Rattle.firings.specs.Firings.{thread_of}
pub use Rattle.firings.specs.declared.firing.Firing.{Firing}
pub use Rattle.shard_queue.specs.declared.fault.GroupFault.{GroupFault}
pub use Rattle.shard_queue.specs.declared.fault.GroupFault.TheVariants.{Missing, Doubled, Stranger}
pub use Rattle.shard_queue.specs.declared.fault.GroupFault.TheVariants.{TooMany, Memory}
pub use Rattle.shard_queue.specs.declared.knowledge.BoardView.{BoardView}
pub use Rattle.shard_queue.specs.declared.knowledge.Hand.{Hand}
pub use Rattle.shard_queue.specs.declared.knowledge.Low.{Low}
pub use Rattle.shard_queue.specs.declared.knowledge.QueueView.{QueueView}
pub use Rattle.shard_queue.specs.declared.limits.TheConstants.{MAX_GROUPS}
