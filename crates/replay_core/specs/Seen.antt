-- Pieces, wholes and lanes as contracts see them.
use Rattle.std.specs.Prelude.{◌≤◌, ◌*◌, ◌^◌, length, map}
use Rattle.aggregations.specs.Table.{count_held}
use Rattle.replay_core.specs.declared.lanes.piece.Piece.{Piece}
use Rattle.replay_core.specs.declared.collector.whole.Whole.{Whole}
use Rattle.replay_core.specs.{Lanes.LaneSeen, Threads.StoreSeen, Threads.threads_of}
use Rattle.replay_core.specs.Pieces.{PieceSeen, WholeSeen}

abbrev pub piece_seen : Piece → PieceSeen
piece_seen p = record {
  events = p.events.items;
  table = p.table;
  taken = p.taken.items;
  exit = p.exit;
}

abbrev pub whole_seen : Whole → WholeSeen
whole_seen w = record {
  events = w.events.items;
  table = w.table;
  ran = map (λ group. group.items) w.ran.items;
  exit = w.exit;
}

-- a lane with a store of which contracts see this, and with this piece
abbrev pub lane_seen : StoreSeen → Piece → LaneSeen
lane_seen store p = record { threads = threads_of store; piece = piece_seen p }

-- a firing makes at most 2^32 contributions
abbrev pub IsRoomy : Piece → Type 0
IsRoomy p = count_held p.table ≤ 2 ^ 32 * length p.taken.items
