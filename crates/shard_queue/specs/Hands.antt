-- What was handed to the seats of a board or a queue, added up.
use Rattle.std.specs.Prelude.{◌≡◌, ℕ, ◌+◌, ◌-◌, ◌≤◌, ◌<◌, Bool, true, false, List, [], ◌∷◌, ◌++◌}
use Rattle.std.specs.Prelude.{Contains, IfNone, IfSome, IsSome, Option}
use Rattle.shard_queue.specs.Vocabulary.{Hand, get_elem?, some}
use Rattle.shard_queue.specs.Numbers.{IsAllBelow}

abbrev pub hand : ℕ → ℕ → ℕ → List ℕ → Hand
hand end seats at_end drawn = record { end = end; seats = seats; at_end = at_end; drawn = drawn }

-- one view that knows what two did
abbrev pub joint_hand : Hand → Hand → Hand
joint_hand v w = hand w.end (v.seats + w.seats) (v.at_end + w.at_end) (v.drawn ++ w.drawn)

-- a seat is split off
abbrev pub one_less : Hand → Hand
one_less v = hand v.end (v.seats - 1) v.at_end v.drawn

abbrev pub empty_hand : Hand
empty_hand = hand 0 0 0 []

-- f of each view, added up
abbrev pub total_over : (Hand → ℕ) → List Hand → ℕ
total_over f [] = 0
total_over f (v ∷ vs) = f v + total_over f vs

abbrev pub seats_of : Hand → ℕ
seats_of v = v.seats

abbrev pub seats_at_end : Hand → ℕ
seats_at_end v = v.at_end

-- a view that counts seats knows the end. One that counts none has drawn nothing
pub record FitsSeats (n : ℕ) (v : Hand) : Type 0 where
  pub ends : 0 < v.seats → v.end ≡ n
  pub few : v.at_end ≤ v.seats
  pub idle : v.seats ≡ 0 → v.drawn ≡ []

abbrev pub AllFit : ℕ → List Hand → Type 0
AllFit n views = (by : ℕ) (v : Hand) → get_elem? views by ≡ some v → FitsSeats n v

-- what a seat was handed: these numbers, and whether it was the end
pub record Handed : Type 0 where
  pub numbers : List ℕ
  pub at_end : Bool

-- a seat that isn't at the end is handed a number below it, which it didn't have; or none, and it
-- is at the end from then on
pub record IsHanded (end : ℕ) (old new : Handed) (number : Option ℕ) : Type 0 where
  pub some : IfSome number
      (λ n. (n < end) × ¬ (Contains old.numbers n) × (new.numbers ≡ old.numbers ++ n ∷ []))
  pub more : IsSome number → (old.at_end ≡ false) × (new.at_end ≡ false)
  pub none : IfNone number ((new.at_end ≡ true) × (new.numbers ≡ old.numbers))

-- what was drawn is the numbers below some front, each once: all below n if someone is at the
-- end
abbrev pub IsHandOut : ℕ → ℕ → List ℕ → Type 0
IsHandOut n at_end drawn =
    (front : ℕ) × (front ≤ n) × (0 < at_end → front ≡ n) × IsAllBelow front drawn
