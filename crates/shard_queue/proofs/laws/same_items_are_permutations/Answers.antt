use Rattle.shard_queue.proofs.Permutations.{same_items}
use Rattle.shard_queue.proofs.laws.same_items_are_permutations.Goals as goal

pub returns : goal.returns
returns c = same_items
