-- What an entry shows.
-- Source: Dynamic Tracing Guide, "Aggregations" (avg).
use Rattle.std.specs.Prelude.{ℕ, map, ℤ, pos, ◌*ℤ◌, int_div, Option, None, Some, slice_index}
use Rattle.std.specs.List.{enumerate_from}
use Rattle.aggregations.specs.declared.held.Held.{Held}
use Rattle.aggregations.specs.declared.held.Held.TheVariants.{
  Counted,
  Summed,
  Least,
  Greatest,
  Mean,
  Counts,
}
use Rattle.aggregations.specs.{Buckets.label, Histograms.Histogram, Values.total}

-- a number, or how many arguments each bucket has
pub data Figure : Type 0 where
  Single : ℤ → Figure
  Distribution : Histogram → Figure

-- a mean is the total divided by the number of arguments, cut toward zero
abbrev pub figure_of : Held → Figure
figure_of (Counted n) = Single (pos n)
figure_of (Summed s) = Single s
figure_of (Least m) = Single m
figure_of (Greatest m) = Single m
figure_of (Mean m) = Single (int_div m.sum (pos m.count))
figure_of (Counts h) = Distribution h

-- the number, if there is one
abbrev pub single_in : Figure → Option ℤ
single_in (Single z) = Some z
single_in (Distribution h) = None

-- the histogram, if there is one
abbrev pub histogram_in : Figure → Option Histogram
histogram_in (Single z) = None
histogram_in (Distribution h) = Some h

-- the total and the number of arguments that a mean is of, if one is shown
abbrev pub mean_in : Held → Option (ℤ × ℕ)
mean_in (Counted n) = None
mean_in (Summed s) = None
mean_in (Least m) = None
mean_in (Greatest m) = None
mean_in (Mean m) = Some (m.sum, m.count)
mean_in (Counts h) = None

-- how many arguments a bucket has
abbrev pub count_at : Figure → ℕ → ℕ
count_at (Single z) bucket = 0
count_at (Distribution h) bucket = slice_index h.counts bucket

-- the number that entries are ordered by: a histogram's is the sum of label times count
abbrev pub rank_of : Figure → ℤ
rank_of (Single z) = z
rank_of (Distribution h) =
    total (map (λ b. label h.scale b.0 *ℤ pos b.1) (enumerate_from 0 h.counts))
