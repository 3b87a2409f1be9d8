use Rattle.report.proofs.Unique.{one_output}
use Rattle.report.proofs.laws.one_output.Goals as goal

pub returns : goal.returns
returns c = one_output
