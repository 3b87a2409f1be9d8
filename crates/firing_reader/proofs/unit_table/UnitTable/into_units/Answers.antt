use Rattle.firing_reader.proofs.Shared.{units_there}
use Rattle.firing_reader.proofs.unit_table.UnitTable.into_units.Goals as goal

pub of-requires : goal.of-requires
of-requires g c = units_there g.E.Entry.is_in g.E.PlainEntry.reads c.self.inside.bytes.items c.self.inside.known.items c.self.invariant
