use Rattle.dif_validate.proofs.Verdicts.{has_verdict}
use Rattle.dif_validate.proofs.laws.has_verdict.Goals as goal

pub returns : goal.returns
returns c = has_verdict
