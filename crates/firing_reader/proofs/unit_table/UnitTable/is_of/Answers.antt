use Rattle.std.proofs.Common.{◌∙◌, Some, ap}
use Rattle.firing_reader.proofs.unit_table.UnitTable.is_of.Goals as goal

pub returns : goal.returns
returns g c = λ same. (c.at-kept.result.0.now, c.at-kept.ensures.there ∙ ap (λ e. Some (c.at-kept.result.0.now, e)) (c.is.ensures same))
