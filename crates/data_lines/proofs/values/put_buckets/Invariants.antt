use Rattle.std.proofs.Common.{◌≡◌, ◌+◌, ◌-◌, ◌∷◌, ◌++◌, filter}
use Rattle.std.specs.List.{flat_map, range_with_len}
use Rattle.data_lines.specs.Values.{bucket_value}
use Rattle.data_lines.proofs.Buckets.{has_some}
use Rattle.data_lines.proofs.values.put_buckets.Given as goal

abbrev pub invariant-loop-bucket : goal.invariant-loop-bucket
invariant-loop-bucket l = l.out.items ≡ l.initial.out.items
    ++ flat_map (λ b. 44 ∷ bucket_value l.histogram b)
    (filter (has_some l.histogram.counts) (range_with_len (l.first + 1) (l.bucket - (l.first + 1))))
