use Rattle.firing_reader.proofs.Written.{trace_is}
use Rattle.firing_reader.proofs.laws.traces_are_read.Goals as goal

pub returns : goal.returns
returns c = trace_is
