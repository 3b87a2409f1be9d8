use Rattle.replay_core.proofs.PatternTests.{selected}
use Rattle.replay_core.proofs.laws.selected_is_matched.Goals as goal

pub returns : goal.returns
returns c = selected
