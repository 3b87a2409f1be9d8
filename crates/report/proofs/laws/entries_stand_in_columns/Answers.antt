use Rattle.report.proofs.Lines.{line_width}
use Rattle.report.proofs.laws.entries_stand_in_columns.Goals as goal

pub returns : goal.returns
returns c = line_width
