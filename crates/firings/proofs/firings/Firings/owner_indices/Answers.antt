use Rattle.std.proofs.Common.{map}
use Rattle.firings.specs.Units.{owner_in, probe_in}
use Rattle.firings.proofs.Probing.{owners_are_indices}
use Rattle.firings.proofs.firings.Firings.owner_indices.Goals as goal

pub returns : goal.returns
returns c =
    let i = c.self.inside in
    rw (c.deref.ensures.value, ← c.self.view_is) (owners_are_indices (map owner_in i.owners) (map probe_in i.probes) i.args.items i.rows.items c.self.invariant)
