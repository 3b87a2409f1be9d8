use Rattle.firings.proofs.EndRanges.{begin_text}
use Rattle.firings.proofs.trace.Trace.begin.Goals as goal

pub own-requires : goal.own-requires
own-requires c = begin_text
