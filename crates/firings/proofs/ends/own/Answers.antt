use Rattle.firings.proofs.EndRanges.{dtrace_text}
use Rattle.firings.proofs.Texts.{empty_text}
use Rattle.firings.proofs.ends.own.Goals as goal

pub of-requires : goal.of-requires
of-requires c = dtrace_text

pub of-requires-3 : goal.of-requires-3
of-requires-3 c = empty_text
