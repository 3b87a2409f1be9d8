-- Lists that have each of some numbers once.
use Rattle.std.specs.Prelude.{◌≡◌, ℕ, List, sum_by}
use Rattle.std.specs.List.{range_with_len}

-- 0 to n - 1, rising
abbrev pub below : ℕ → List ℕ
below n = range_with_len 0 n

-- the same items, each as often, in any order: however items are weighed, both lists weigh as much
abbrev pub SameItems : {A : Type 0} → List A → List A → Type 0
SameItems {A} xs ys = (weight : A → ℕ) → sum_by weight xs ≡ sum_by weight ys

-- the numbers below n, each once, in any order
abbrev pub IsAllBelow : ℕ → List ℕ → Type 0
IsAllBelow n xs = SameItems xs (below n)
