use Rattle.std.proofs.Common.{refl}
use Rattle.firing_reader.specs.Left.{left_in}
use Rattle.firing_reader.proofs.records.records_of.Goals as goal

pub returns-clause-all : goal.returns-clause-all
unfolding left_in
returns-clause-all c = rw (c.from_reader.ensures.source, c.from_reader.ensures.state) refl
