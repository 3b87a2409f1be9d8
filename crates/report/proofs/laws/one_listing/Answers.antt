use Rattle.report.proofs.Unique.{one_listing}
use Rattle.report.proofs.laws.one_listing.Goals as goal

pub returns : goal.returns
returns c = one_listing
