use Rattle.report.proofs.Lines.{name_whole}
use Rattle.report.proofs.laws.names_stand_whole.Goals as goal

pub returns : goal.returns
returns c = name_whole
