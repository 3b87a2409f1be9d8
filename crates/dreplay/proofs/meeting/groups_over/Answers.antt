use denote.Param.Send.{IsSync, sendable}
use denote.Param.SendFields.{as_row_sync, declared_sync}
use Rattle.std.proofs.Crossing.{crosses}
use Rattle.d_types.proofs.Crossing.{clause_sync, script_sync}
use Rattle.keyed_hash.specs.contracts.hash_key.HashKey as hash_key
use Rattle.replay_core.proofs.lanes.lane.Lane.TheSendSync as lane
use Rattle.replay_core.proofs.lanes.tables.Tables.TheSendSync as tables
use Rattle.dreplay.proofs.meeting.MeetingLane.TheSendSync as meeting_lane
use Rattle.dreplay.proofs.meeting.MeetingLanes.TheSendSync as meeting_lanes
use Rattle.dreplay.proofs.meeting.groups_over.Goals as goal

hash_key_sync : IsSync hash_key.the_row
hash_key_sync = search (sendable, crosses) depth 20

pub run_all-requires-sync-L : goal.run_all-requires-sync-L
run_all-requires-sync-L g c κs within =
    search (script_sync, hash_key_sync, meeting_lanes.the_sync, declared_sync, as_row_sync, sendable, crosses) depth 30

pub run_all-requires-send-L-Lane : goal.run_all-requires-send-L-Lane
run_all-requires-send-L-Lane g c κs within = search (clause_sync, lane.the_send, tables.the_send, meeting_lane.the_send, sendable, crosses) depth 30
