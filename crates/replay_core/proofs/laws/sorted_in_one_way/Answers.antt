use Rattle.replay_core.proofs.NumberOrder.{sorted_once}
use Rattle.replay_core.proofs.laws.sorted_in_one_way.Goals as goal

pub returns : goal.returns
returns c = sorted_once
