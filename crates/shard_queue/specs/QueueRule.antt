-- What the seats of a queue know: what was handed to them, and how many seats there are.
use Rattle.std.specs.Prelude.{◌≡◌, ℕ, ◌+◌, ◌-◌, ◌≤◌, ◌<◌, List, [], map, length}
use Rattle.shard_queue.specs.Vocabulary.{Hand, QueueView, get_elem?, some}
use Rattle.shard_queue.specs.Hands.{hand, empty_hand, joint_hand, one_less, IsHandOut}
use Rattle.shard_queue.specs.Marks.{Deals, Took}

abbrev pub among : ℕ → Hand → QueueView
among seats h = record { hand = h; seats = seats }

abbrev pub hand_in : QueueView → Hand
hand_in v = v.hand

-- a view that counts seats knows how many there are
abbrev pub Know : ℕ → List QueueView → Type 0
Know seats views = (by : ℕ) (v : QueueView)
    → get_elem? views by ≡ some v → 0 < v.hand.seats → v.seats ≡ seats

abbrev pub Dealt : List ℕ → List QueueView → Type 0
Dealt items views = (put : ℕ) × (seats : ℕ) × (front : ℕ) × (left : ℕ)
    × Deals put seats front left items (map hand_in views) × Know seats views

abbrev pub no_seat : QueueView
no_seat = among 0 empty_hand

-- before anything is put, there is one seat more
abbrev pub one_seat_more : QueueView → QueueView
one_seat_more v =
    among (v.seats + 1) (hand v.hand.end (v.hand.seats + 1) v.hand.at_end v.hand.drawn)

-- one number or mark more was put
abbrev pub one_put : QueueView → QueueView
one_put v = among v.seats (hand (v.hand.end + 1) v.hand.seats v.hand.at_end v.hand.drawn)

-- a seat is split off
abbrev pub one_off : QueueView → QueueView
one_off v = among v.seats (one_less v.hand)

abbrev pub one_seat : QueueView → QueueView
one_seat v = among v.seats (hand v.hand.end 1 0 [])

abbrev pub joint : QueueView → QueueView → QueueView
joint v w = among w.seats (joint_hand v.hand w.hand)

abbrev pub Taken : QueueView → ℕ → QueueView → Type 0
Taken v x w = (w.seats ≡ v.seats) × Took v.seats v.hand x w.hand

-- a seat that has not seen the end never finds the queue empty
abbrev pub More : QueueView → List ℕ → Type 0
More v items = v.hand.at_end < v.hand.seats → v.seats ≤ v.hand.end → 0 < length items

-- what was drawn, if every seat is counted
abbrev pub Total : QueueView → List ℕ → Type 0
Total v items = v.hand.seats ≡ v.seats → 0 < v.hand.seats
    → IsHandOut (v.hand.end - v.seats) v.hand.at_end v.hand.drawn
