use denote.Param.Send.{IsSync, sendable}
use denote.Param.SendFields.{as_row_sync, declared_sync}
use Rattle.std.proofs.Crossing.{crosses}
use Rattle.d_types.proofs.Crossing.{clause_sync, script_sync}
use Rattle.keyed_hash.specs.contracts.hash_key.HashKey as hash_key
use Rattle.replay_core.proofs.lanes.lane.Lane.TheSendSync as lane
use Rattle.replay_core.proofs.lanes.tables.Tables.TheSendSync as tables
use Rattle.consumer.proofs.consumer.Consumer.run.Goals as goal

hash_key_sync : IsSync hash_key.the_row
hash_key_sync = search (sendable, crosses) depth 20

pub run_lanes-requires-sync-K : goal.run_lanes-requires-sync-K
run_lanes-requires-sync-K g c κs within =
    search (script_sync, hash_key_sync, declared_sync, as_row_sync, sendable, crosses) depth 30

pub run_lanes-requires-send-K-Lane : goal.run_lanes-requires-send-K-Lane
run_lanes-requires-send-K-Lane g c κs within =
    search (clause_sync, lane.the_send, tables.the_send, sendable, crosses) depth 30
