use Rattle.firing_reader.proofs.Shared.{push_gains}
use Rattle.firing_reader.proofs.unit_table.UnitTable.index_of_other.Goals as goal

pub returns-in_default : goal.returns-in_default
returns-in_default g c =
    let both = push_gains _ _ (c.at-plain.result.0.now, c.at-plain.result.2) _ c.push.ensures in
    (both.0, rw c.at-plain.ensures.there both.1)
