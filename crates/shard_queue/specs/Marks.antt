-- The rule of a queue. It holds the numbers from the front on, and after them an end mark for each
-- seat: a seat that takes one of those is at the end.
use Rattle.std.specs.Prelude.{◌≡◌, ℕ, zero, suc, ◌+◌, ◌-◌, ◌≤◌, ◌<◌, ◌⊎◌, min, List, [], ◌∷◌, ◌++◌}
use Rattle.std.specs.Prelude.{length, sum_by, Contains}
use Rattle.shard_queue.specs.Vocabulary.{Hand}
use Rattle.shard_queue.specs.Numbers.{below}
use Rattle.shard_queue.specs.Hands.{hand, total_over, seats_of, seats_at_end, AllFit}

abbrev pub count_up : ℕ → ℕ → List ℕ
count_up a zero = []
count_up a (suc n) = a ∷ count_up (suc a) n

-- the queue after `put` numbers, the last of which are a mark for each seat; those below the front
-- were taken
pub record Deals (put seats front left : ℕ) (items : List ℕ) (views : List Hand) : Type 0 where
  pub are : items ≡ count_up front left
  pub sum_is : front + left ≡ put
  pub fit : AllFit put views
  pub all : total_over seats_of views ≡ seats
  pub most : front ≤ (put - seats) + total_over seats_at_end views
  pub over : 0 < total_over seats_at_end views → put - seats < front
  pub drawn : (h : ℕ → ℕ)
      → total_over (λ v. sum_by h v.drawn) views ≡ sum_by h (below (min (put - seats) front))

-- one take: the number joins what was drawn, or it is a mark, and the seat is at the end
abbrev pub Took : ℕ → Hand → ℕ → Hand → Type 0
Took seats v x w =
    ((x + seats < v.end) × (w ≡ hand v.end v.seats v.at_end (v.drawn ++ x ∷ []))
    × ¬ (Contains v.drawn x) × (length v.drawn + seats < v.end))
    ⊎ ((v.end ≤ x + seats) × (w ≡ hand v.end v.seats (v.at_end + 1) v.drawn))
