use Rattle.firing_reader.proofs.Shared.{push_gains}
use Rattle.firing_reader.proofs.unit_table.UnitTable.intern.Goals as goal

pub returns-in_default : goal.returns-in_default
returns-in_default g c = push_gains _ _ (c.args.key.now, c.args.entry) _ c.push.ensures
