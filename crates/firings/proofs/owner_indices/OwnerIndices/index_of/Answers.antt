use Rattle.std.proofs.Common.{ap, map}
use Rattle.std.proofs.lemmas.List.{length-map}
use Rattle.firings.specs.declared.stored_row.Row.{Row}
use Rattle.firings.specs.declared.unit.Owner.{Owner}
use Rattle.firings.specs.Units.{owner_in}
use Rattle.firings.proofs.Probing.{field_at, field_below, row_there}
use Rattle.firings.proofs.owner_indices.OwnerIndices.index_of.Goals as goal

pub row_at-requires : goal.row_at-requires
row_at-requires c = row_there (λ (r : Row). r.owner) c.self.inside.rows.now _ _ (ap (λ s. s.1) c.self.view_is) c.requires

pub returns-clause-index : goal.returns-clause-index
returns-clause-index c = rw (← c.self.view_is) (field_at (λ (r : Row). r.owner) c.self.inside.rows.now _ c.row_at.result c.row_at.ensures)

pub returns-clause-within : goal.returns-clause-within
returns-clause-within c =
    let size = length-map (map owner_in c.self.inside.owners.now) (λ (o : Owner). o.thread) in
    rw (← c.self.view_is) (rw size (field_below (λ (r : Row). r.owner) c.self.inside.rows.now _ _ c.row_at.result c.self.invariant c.row_at.ensures))
