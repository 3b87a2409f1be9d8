use Rattle.std.proofs.Common.{ap}
use Rattle.firings.specs.declared.stored_row.Row.{Row}
use Rattle.firings.proofs.Probing.{field_at, field_below, row_there}
use Rattle.firings.proofs.probe_indices.ProbeIndices.index_of.Goals as goal

pub row_at-requires : goal.row_at-requires
row_at-requires c = row_there (λ (r : Row). r.probe) c.self.inside.rows.now _ _ (ap (λ s. s.indices) c.self.view_is) c.requires

pub returns-clause-index : goal.returns-clause-index
returns-clause-index c = rw (← c.self.view_is) (field_at (λ (r : Row). r.probe) c.self.inside.rows.now _ c.row_at.result c.row_at.ensures)

pub returns-clause-within : goal.returns-clause-within
returns-clause-within c = rw (← c.self.view_is) (field_below (λ (r : Row). r.probe) c.self.inside.rows.now _ _ c.row_at.result c.self.invariant c.row_at.ensures)
