use Rattle.data_lines.proofs.Unique.{data_exists}
use Rattle.data_lines.proofs.laws.has_data.Goals as goal

pub returns : goal.returns
returns c = data_exists
