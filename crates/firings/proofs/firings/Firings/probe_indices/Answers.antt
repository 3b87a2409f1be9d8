use Rattle.std.proofs.Common.{map}
use Rattle.firings.specs.Units.{owner_in, probe_in}
use Rattle.firings.proofs.Probing.{are_indices, rows_placed}
use Rattle.firings.proofs.firings.Firings.probe_indices.Goals as goal

pub new-requires : goal.new-requires
new-requires c =
    let i = c.self.inside in
    rw c.deref.ensures.value (rows_placed (map owner_in i.owners) (map probe_in i.probes) i.args.items i.rows.items c.self.invariant)

pub returns : goal.returns
returns c =
    let i = c.self.inside in
    rw (c.new.ensures.probes, c.new.ensures.indices, c.deref.ensures.value, ← c.self.view_is) (are_indices (map owner_in i.owners) (map probe_in i.probes) i.args.items i.rows.items c.self.invariant)
