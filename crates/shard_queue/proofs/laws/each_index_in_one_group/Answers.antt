use Rattle.shard_queue.proofs.Unite.{each_index}
use Rattle.shard_queue.proofs.laws.each_index_in_one_group.Goals as goal

pub returns : goal.returns
returns c = each_index
