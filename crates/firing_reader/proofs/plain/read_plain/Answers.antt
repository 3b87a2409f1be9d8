use Rattle.firing_reader.proofs.SharedRows.{passes_alone}
use Rattle.firing_reader.proofs.plain.read_plain.Goals as goal

pub returns : goal.returns
returns c = passes_alone _ _ _ _ c.take_plain.ensures.left c.take_plain.ensures.read
