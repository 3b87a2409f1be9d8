-- Which seat is at which queue, and what a list of seats knows.
use Rattle.std.specs.Prelude.{◌≡◌, ℕ, ◌+◌, ◌++◌, List, [], ◌∷◌, false, if◌then◌else◌}
use Rattle.shard_queue.specs.{Hands.Handed, Vocabulary.IsPassOf}
use Rattle.shard_queue.specs.declared.queue.GroupQueue.{GroupQueue}
use Rattle.shard_queue.specs.declared.queue_seat.QueueSeat.{QueueSeat}

abbrev pub IsIn : GroupQueue → QueueSeat → Type 0
IsIn queue seat =
    IsPassOf queue.queue seat.pass × (seat.end ≡ queue.end) × (seat.workers ≡ queue.workers)

abbrev pub queue_handed : QueueSeat → Handed
queue_handed seat = record { numbers = seat.taken.items; at_end = seat.at_end }

-- the seat has taken nothing
abbrev pub IsUnused : QueueSeat → Type 0
IsUnused seat = (seat.taken.items ≡ []) × (seat.at_end ≡ false)

-- what the seats have taken, one seat after the other
abbrev pub queue_numbers : List QueueSeat → List ℕ
queue_numbers [] = []
queue_numbers (s ∷ ss) = s.taken.items ++ queue_numbers ss

-- how many of them are at the end
abbrev pub queue_seats_at_end : List QueueSeat → ℕ
queue_seats_at_end [] = 0
queue_seats_at_end (s ∷ ss) = (if s.at_end then 1 else 0) + queue_seats_at_end ss
