use Rattle.report.proofs.Lines.{number_whole}
use Rattle.report.proofs.laws.numbers_stand_whole.Goals as goal

pub returns : goal.returns
returns c = number_whole
