use Rattle.d_values.proofs.Lawful.{with_local-here, with_local-others}
use Rattle.d_values.proofs.laws.one_local_set.Goals as goal

pub returns : goal.returns
returns c = record { here = with_local-here; others = with_local-others }
