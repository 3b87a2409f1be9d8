use Rattle.report.proofs.Lines.{ascend}
use Rattle.report.proofs.laws.listings_ascend.Goals as goal

pub returns : goal.returns
returns c = ascend
