use Rattle.firing_reader.proofs.BlockSteps.{rest_is_trace, whole_is_trace}
use Rattle.firing_reader.proofs.blocks.read_left.Goals as goal

pub returns-in-Header-clause-trace : goal.returns-in-Header-clause-trace
returns-in-Header-clause-trace g c = whole_is_trace _ _ _ c.read_whole.ensures

pub returns-in-Rows-clause-trace : goal.returns-in-Rows-clause-trace
returns-in-Rows-clause-trace g c =
    let kept = rw c.in-Rows.is at c.in_ok-advance.ensures.kept in
    rest_is_trace _ _ _ _ c.read_last_rows.ensures kept.1.1
