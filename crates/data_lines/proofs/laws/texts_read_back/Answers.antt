use Rattle.data_lines.proofs.Reading.{text_back}
use Rattle.data_lines.proofs.laws.texts_read_back.Goals as goal

pub returns : goal.returns
returns c = text_back
