use Rattle.std.proofs.Common.{◌∷◌}
use Rattle.std.specs.Vec.Iter.{into_iter_items}
use Rattle.replay_core.specs.Tables.{Refine}
use Rattle.replay_core.proofs.collector.merge.merge_all.Given as goal

abbrev pub invariant-loop-table : goal.invariant-loop-table
invariant-loop-table l = Refine (l.all ∷ into_iter_items l.table-iterator) l.fn.tables.items
