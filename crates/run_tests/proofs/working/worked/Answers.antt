use denote.Param.Send.{sendable}
use Rattle.std.proofs.Crossing.{crosses}
use Rattle.d_types.proofs.Crossing.{clause_sync}
use Rattle.replay_core.proofs.lanes.lane.Lane.TheSendSync as lane
use Rattle.replay_core.proofs.lanes.tables.Tables.TheSendSync as tables
use Rattle.run_tests.proofs.working.worked.Goals as goal

pub work_until-requires-send-L-Lane : goal.work_until-requires-send-L-Lane
work_until-requires-send-L-Lane g c κs within = search (clause_sync, lane.the_send, tables.the_send, sendable, crosses) depth 30

pub work-requires-send-L-Lane : goal.work-requires-send-L-Lane
work-requires-send-L-Lane g c κs within = search (clause_sync, lane.the_send, tables.the_send, sendable, crosses) depth 30
