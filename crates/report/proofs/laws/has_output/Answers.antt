use Rattle.report.proofs.Outputs.{output_exists}
use Rattle.report.proofs.laws.has_output.Goals as goal

pub returns : goal.returns
returns c functions texts contributions = output_exists contributions functions texts
