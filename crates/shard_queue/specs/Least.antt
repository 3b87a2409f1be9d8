-- The rule of a board's second word: it is the least number that was lowered.
use Rattle.std.specs.Prelude.{◌≡◌, ℕ, ◌-◌, ◌^◌, ◌≤◌, ◌⊎◌, min, List}
use Rattle.shard_queue.specs.Vocabulary.{Low, get_elem?, some}

-- if no number was lowered, or shown
abbrev pub no_number : ℕ
no_number = 2 ^ 64 - 1

abbrev pub low : ℕ → ℕ → Low
low lowered seen = record { lowered = lowered; seen = seen }

abbrev pub nothing_lowered : Low
nothing_lowered = low no_number no_number

abbrev pub lesser : Low → Low → Low
lesser v w = low (min v.lowered w.lowered) (min v.seen w.seen)

-- the word is the least number that was lowered, and nobody was shown a lesser one
pub record IsLeastLowered (word : ℕ) (views : List Low) : Type 0 where
  pub small : word ≤ no_number
  pub lowered : (by : ℕ) (v : Low) → get_elem? views by ≡ some v → word ≤ v.lowered
  pub seen : (by : ℕ) (v : Low) → get_elem? views by ≡ some v → word ≤ v.seen
  pub met : (word ≡ no_number)
      ⊎ ((by : ℕ) × (v : Low) × (get_elem? views by ≡ some v) × (v.lowered ≡ word))
