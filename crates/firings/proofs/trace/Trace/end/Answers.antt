use Rattle.firings.proofs.EndRanges.{end_text}
use Rattle.firings.proofs.trace.Trace.end.Goals as goal

pub own-requires : goal.own-requires
own-requires c = end_text
