use Rattle.data_lines.proofs.Reading.{key_back}
use Rattle.data_lines.proofs.laws.keys_read_back.Goals as goal

pub returns : goal.returns
returns c = key_back
