-- Histograms: how many arguments each bucket of a scale has.
-- Source: Dynamic Tracing Guide, "Aggregations".
use Rattle.std.specs.Prelude.{◌≡◌, ℕ, ◌<◌, ◌≤◌, ◌^◌, nat_eq, ℤ, Some, List, map, sum, slice_index}
use Rattle.std.specs.List.{range_with_len, IsDistinct}
use Rattle.std.specs.{Map.lookup, Map.keys_of, Option.unwrap_or}
use Rattle.aggregations.specs.Vocabulary.{Scale}
use Rattle.aggregations.specs.Buckets.{buckets, counts_of}

-- a histogram as contracts see it: a count for each bucket of the scale
pub record Histogram : Type 0 where
  pub scale : Scale
  pub counts : List ℕ

-- the histogram of the arguments
abbrev pub histogram_of : Scale → List ℤ → Histogram
histogram_of scale args = record { scale = scale; counts = counts_of scale args }

-- what is kept for the bucket: nothing if it was never used
abbrev pub used_at : List (ℕ × ℕ) → ℕ → ℕ
used_at used bucket = unwrap_or (lookup (nat_eq bucket) used) 0

-- a count for each bucket of the scale, from those that were used
abbrev pub counts_used : Scale → List (ℕ × ℕ) → List ℕ
counts_used scale used = map (used_at used) (range_with_len 0 (buckets scale))

-- what is kept: buckets of the scale, each once and with arguments, and at most 2^52 arguments
pub record AreUsed (scale : Scale) (used : List (ℕ × ℕ)) : Type 0 where
  pub apart : IsDistinct nat_eq (keys_of used)
  pub each : (bucket count : ℕ) → lookup (nat_eq bucket) used ≡ Some count
      → (bucket < buckets scale) × (0 < count)
  pub few : sum (counts_used scale used) ≤ 2 ^ 52

-- from the first bucket that has arguments to the last
pub record IsSpan (counts : List ℕ) (first last : ℕ) : Type 0 where
  pub starts : 0 < slice_index counts first
  pub ends : 0 < slice_index counts last
  pub before : (bucket : ℕ) → bucket < first → slice_index counts bucket ≡ 0
  pub after : (bucket : ℕ) → last < bucket → slice_index counts bucket ≡ 0
