use Rattle.data_lines.proofs.Holding.{entry_back}
use Rattle.data_lines.proofs.laws.entries_read_back.Goals as goal

pub returns : goal.returns
returns c = entry_back
