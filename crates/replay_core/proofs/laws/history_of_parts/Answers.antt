use Rattle.replay_core.proofs.RunLemmas.{history_append}
use Rattle.replay_core.proofs.laws.history_of_parts.Goals as goal

pub returns : goal.returns
returns c = history_append
