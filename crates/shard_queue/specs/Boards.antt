-- Which seat is at which board, and what a list of seats knows.
use Rattle.std.specs.Prelude.{◌≡◌, ℕ, min, false, List, [], ◌∷◌, ◌+◌, ◌++◌, if◌then◌else◌}
use Rattle.shard_queue.specs.declared.board.ClaimBoard.{ClaimBoard}
use Rattle.shard_queue.specs.declared.claim_seat.ClaimSeat.{ClaimSeat}
use Rattle.shard_queue.specs.{Hands.Handed, Least.no_number}

abbrev pub IsAt : ClaimBoard → ClaimSeat → Type 0
IsAt board seat = (seat.seat.table_id ≡ board.table.shared.table_id) × (seat.end ≡ board.end)

abbrev pub claim_handed : ClaimSeat → Handed
claim_handed seat = record { numbers = seat.taken.items; at_end = seat.at_end }

-- the least number that the seat lowered, 2^64 - 1 without any
abbrev pub number_lowered : ClaimSeat → ℕ
number_lowered seat = seat.seat.me.0.low.lowered

-- the least number that the seat was shown, 2^64 - 1 without any
abbrev pub number_seen : ClaimSeat → ℕ
number_seen seat = seat.seat.me.0.low.seen

-- a new seat has taken nothing, lowered nothing and was shown nothing
pub record IsNew (seat : ClaimSeat) : Type 0 where
  pub taken : seat.taken.items ≡ []
  pub at_end : seat.at_end ≡ false
  pub lowered : number_lowered seat ≡ no_number
  pub seen : number_seen seat ≡ no_number

-- what the seats have drawn, one seat after the other
abbrev pub claim_numbers : List ClaimSeat → List ℕ
claim_numbers [] = []
claim_numbers (s ∷ ss) = s.taken.items ++ claim_numbers ss

-- how many of them are at the end
abbrev pub claim_seats_at_end : List ClaimSeat → ℕ
claim_seats_at_end [] = 0
claim_seats_at_end (s ∷ ss) = (if s.at_end then 1 else 0) + claim_seats_at_end ss

-- the least number that one of them lowered
abbrev pub least_lowered : List ClaimSeat → ℕ
least_lowered [] = no_number
least_lowered (s ∷ ss) = min (number_lowered s) (least_lowered ss)

-- the least number that one of them was shown
abbrev pub least_seen : List ClaimSeat → ℕ
least_seen [] = no_number
least_seen (s ∷ ss) = min (number_seen s) (least_seen ss)
