-- The one count and the one number of what is held.
use Rattle.std.specs.Prelude.{ℕ, ◌+◌, ℤ, pos, ◌+ℤ◌}
use Rattle.std.specs.Int.{int_wrap, int_min, int_max, w64}
use Rattle.aggregations.specs.declared.held.Held.{Held}
use Rattle.aggregations.specs.declared.held.Held.TheVariants.{
  Counted,
  Summed,
  Least,
  Greatest,
  Mean,
  Counts,
}

-- 0 if no count is held, or many
abbrev pub count_of : Held → ℕ
count_of (Counted n) = n
count_of (Summed s) = 0
count_of (Least m) = 0
count_of (Greatest m) = 0
count_of (Mean m) = m.count
count_of (Counts h) = 0

-- 0 if no number is held
abbrev pub number_of : Held → ℤ
number_of (Counted n) = pos 0
number_of (Summed s) = s
number_of (Least m) = m
number_of (Greatest m) = m
number_of (Mean m) = m.sum
number_of (Counts h) = pos 0

-- what is held after n more arguments that equal this number; a histogram takes them by itself
abbrev pub after : Held → ℤ → ℕ → Held
after (Counted n) number count = Counted (n + count)
after (Summed s) number count = Summed (int_wrap w64 (s +ℤ number))
after (Least m) number count = Least (int_min m number)
after (Greatest m) number count = Greatest (int_max m number)
after (Mean m) number count =
    Mean (record { sum = int_wrap w64 (m.sum +ℤ number); count = m.count + count })
after (Counts h) number count = Counts h
