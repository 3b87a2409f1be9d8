use Rattle.replay_core.proofs.TableThreads.{none_set}
use Rattle.replay_core.proofs.lanes.tables.TablesStore.new.Goals as goal

pub returns : goal.returns
returns c = none_set c.new.result c.with_hash_key.result _ c.with_hasher.result.entries c.with_hash_key.ensures c.with_hasher.ensures.empty
