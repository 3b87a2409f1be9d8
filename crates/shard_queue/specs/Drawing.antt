-- The rule of a board's first word: the seats have drawn the numbers below it, or all below the
-- end.
use Rattle.std.specs.Prelude.{◌≡◌, ℕ, ◌+◌, ◌≤◌, ◌<◌, ◌⊎◌, ◌^◌, min, List, [], ◌∷◌, ◌++◌, length}
use Rattle.std.specs.Prelude.{sum_by, Contains}
use Rattle.shard_queue.specs.Vocabulary.{Hand}
use Rattle.shard_queue.specs.Numbers.{below}
use Rattle.shard_queue.specs.Hands.{hand, total_over, seats_of, seats_at_end, AllFit}

-- n numbers are handed out among the seats
pub record Draws (n seats word : ℕ) (views : List Hand) : Type 0 where
  pub small : n + seats < 2 ^ 63
  pub fit : AllFit n views
  pub all : total_over seats_of views ≡ seats
  pub most : word ≤ n + total_over seats_at_end views
  pub over : 0 < total_over seats_at_end views → n < word
  pub drawn : (h : ℕ → ℕ) → total_over (λ v. sum_by h v.drawn) views ≡ sum_by h (below (min n word))

-- one claim: the number found joins what was drawn, or the seat is at the end
abbrev pub Drawn : Hand → ℕ → Hand → Type 0
Drawn v found w =
    ((found < v.end) × (w ≡ hand v.end v.seats v.at_end (v.drawn ++ found ∷ []))
    × ¬ (Contains v.drawn found) × (length v.drawn < v.end))
    ⊎ ((v.end ≤ found) × (w ≡ hand v.end v.seats (v.at_end + 1) v.drawn))
