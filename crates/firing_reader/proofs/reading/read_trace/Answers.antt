use Rattle.firing_reader.proofs.Kept.{is_trace}
use Rattle.firing_reader.proofs.reading.read_trace.Goals as goal

pub of-requires : goal.of-requires
of-requires c = rw c.finish.ensures (is_trace c.args.bytes.now _ c.in_ok-read_whole.ensures)
