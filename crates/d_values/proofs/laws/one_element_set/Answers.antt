use Rattle.d_values.proofs.Lawful.{with_own-here, with_own-others}
use Rattle.d_values.proofs.laws.one_element_set.Goals as goal

pub returns : goal.returns
returns c = record { here = with_own-here; others = with_own-others }
