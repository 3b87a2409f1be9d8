use Rattle.data_lines.proofs.Unique.{one_data}
use Rattle.data_lines.proofs.laws.one_data.Goals as goal

pub returns : goal.returns
returns c = one_data
