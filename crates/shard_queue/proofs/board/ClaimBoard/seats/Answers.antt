use Rattle.std.proofs.Common.{rules, ap}
use Rattle.shard_queue.proofs.BoardSteps.{splits_as}
use Rattle.shard_queue.proofs.board.ClaimBoard.seats.Goals as goal

pub split_seat-seat-requires : goal.split_seat-seat-requires
split_seat-seat-requires c = (c.loop.invariant.at, search rules, splits_as _ _ _ _ _ (ap (λ m. m.0) c.loop.invariant.view) (search rules))
