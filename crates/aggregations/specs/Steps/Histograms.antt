-- One value more in a bucket.
use Rattle.std.specs.Prelude.{ℕ, ◌+◌, slice_index, slice_set}
use Rattle.aggregations.specs.Histograms.{Histogram}

-- with more in one bucket
abbrev pub with_more : Histogram → ℕ → ℕ → Histogram
with_more h bucket more = record {
  scale = h.scale;
  counts = slice_set h.counts bucket (slice_index h.counts bucket + more);
}
