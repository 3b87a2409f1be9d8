use Rattle.firings.proofs.EndRanges.{ends}
use Rattle.firings.proofs.laws.ends_have_ranges.Goals as goal

pub returns : goal.returns
returns c = ends
