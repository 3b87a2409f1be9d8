use Rattle.shard_queue.proofs.Unite.{firings_at}
use Rattle.shard_queue.proofs.laws.firings_at_the_indices.Goals as goal

pub returns : goal.returns
returns c = firings_at
