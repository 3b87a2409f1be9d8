-- The value of an aggregation, from the arguments in their order.
-- Source: Dynamic Tracing Guide, "Aggregations".
use Rattle.std.specs.Prelude.{◌≡◌, ℕ, ◌<◌, ◌≤◌, ◌^◌, ℤ, pos, ◌+ℤ◌, ◌≤ℤ◌, List, [], ◌∷◌, All}
use Rattle.std.specs.Prelude.{Contains, length, sum}
use Rattle.std.specs.Int.{int_wrap, w64}
use Rattle.aggregations.specs.Vocabulary.{AggFn, Count, Sum, Min, Max, Avg, Quantize, Lquantize}
use Rattle.aggregations.specs.Vocabulary.{Powers, Steps}
use Rattle.aggregations.specs.declared.held.Held.{
  Held,
  TheVariants.Counted,
  TheVariants.Summed,
  TheVariants.Least,
  TheVariants.Greatest,
  TheVariants.Mean,
  TheVariants.Counts,
}
use Rattle.aggregations.specs.Histograms.{histogram_of}

-- the whole numbers, added up
abbrev pub total : List ℤ → ℤ
total [] = pos 0
total (x ∷ xs) = x +ℤ total xs

-- What is held is what the function makes of the arguments. A sum is their total as a 64-bit
-- number; a minimum is one of them, and none is below it.
abbrev pub IsValue : AggFn → Held → List ℤ → Type 0
IsValue Count (Counted n) args = n ≡ length args
IsValue Sum (Summed s) args = s ≡ int_wrap w64 (total args)
IsValue Min (Least m) args = Contains args m × All (λ x. m ≤ℤ x) args
IsValue Max (Greatest m) args = Contains args m × All (λ x. x ≤ℤ m) args
IsValue Avg (Mean m) args = (m.sum ≡ int_wrap w64 (total args)) × (m.count ≡ length args)
IsValue Quantize (Counts h) args = h ≡ histogram_of Powers args
IsValue (Lquantize range) (Counts h) args = h ≡ histogram_of (Steps range) args
IsValue function held args = ⊥

-- how many arguments are held, as far as that is kept
abbrev pub count_in : Held → ℕ
count_in (Counted n) = n
count_in (Summed s) = 0
count_in (Least m) = 0
count_in (Greatest m) = 0
count_in (Mean m) = m.count
count_in (Counts h) = sum h.counts

-- what is true of each entry: at most 2^52 arguments, and a mean has some
abbrev pub IsKept : Held → Type 0
IsKept (Counted n) = n ≤ 2 ^ 52
IsKept (Summed s) = 0 ≤ 2 ^ 52
IsKept (Least m) = 0 ≤ 2 ^ 52
IsKept (Greatest m) = 0 ≤ 2 ^ 52
IsKept (Mean m) = (0 < m.count) × (m.count ≤ 2 ^ 52)
IsKept (Counts h) = sum h.counts ≤ 2 ^ 52
