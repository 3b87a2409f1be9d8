use Rattle.std.proofs.Common.{◌≡◌, ◌-◌, ◌++◌, map, sum}
use Rattle.std.specs.List.{flat_map, range_with_len}
use Rattle.report.specs.Histograms.{row_bytes}
use Rattle.report.proofs.Rows.{row_at}
use Rattle.report.proofs.histograms.put_rows.Given as goal

abbrev pub invariant-loop-bucket : goal.invariant-loop-bucket
invariant-loop-bucket l = l.out.items ≡ l.fn.out.items
    ++ flat_map (row_bytes l.histogram.scale (sum l.histogram.counts)) (map (row_at l.histogram.counts) (range_with_len l.start (l.bucket - l.start)))
