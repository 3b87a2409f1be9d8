use Rattle.std.proofs.Common.{◌≡◌, ◌-◌, ◌+◌, ◌++◌, length, map, min, sum, arith, sym, ap, ◌∙◌}
use Rattle.std.proofs.Common.{append-nil, append_assoc}
use Rattle.std.specs.List.{flat_map, range_with_len}
use Rattle.report.specs.Histograms.{row_bytes}
use Rattle.report.proofs.Rows.{row_at, row_is, rows_are, rows-none, rows_more, share_le, ordered}
use Rattle.report.proofs.Rows.{last_within}
use Rattle.report.proofs.histograms.put_rows.Goals as goal

pub returns-in_default : goal.returns-in_default
returns-in_default c =
    let h = c.args.histogram.now in
    sym (append-nil c.args.out.now.items)
    ∙ ap (λ l. c.args.out.now.items ++ flat_map (row_bytes h.scale (sum h.counts)) l) (sym (rows-none h c.in_default.ensures))

pub loop-bucket-init : goal.loop-bucket-init
loop-bucket-init c =
    let h = c.args.histogram.now in
    let start = c.saturating_sub-start.result in
    sym (append-nil c.args.out.now.items)
    ∙ ap (λ n. c.args.out.now.items ++ flat_map (row_bytes h.scale (sum h.counts)) (map (row_at h.counts) (range_with_len start n))) (let e : 0 ≡ start - start = omega arith in e)

pub put_row-requires : goal.put_row-requires
put_row-requires c =
    let counts = c.args.histogram.now.counts in
    let test = c.loop-bucket-test.true in
    let end = c.min-end.ensures in
    let all = c.total-all.ensures.value in
    let one = share_le counts c.in-Some.first in
    let some = c.in-Some.ensures.starts in
    let share = share_le counts c.loop-bucket.bucket in
    let count = c.count_at.ensures in
    let most = c.buckets.ensures in
    record { bucket = omega arith; some = omega arith; few = c.total-all.ensures.few; share = omega arith }

pub loop-bucket-preserved : goal.loop-bucket-preserved
loop-bucket-preserved c =
    let h = c.args.histogram.now in
    let start = c.saturating_sub-start.result in
    let b = c.loop-bucket.bucket in
    let row = row_bytes h.scale (sum h.counts) in
    let put : c.put_row.new.out.items ≡ c.loop-bucket.out.items ++ row (row_at h.counts b) =
    c.in_ok-put_row.ensures
    ∙ ap (λ f. c.loop-bucket.out.items ++ row_bytes f c.total-all.result (b, c.count_at.result)) c.scale-scale.ensures.value
    ∙ ap (λ n. c.loop-bucket.out.items ++ row_bytes h.scale n (b, c.count_at.result)) c.total-all.ensures.value
    ∙ ap (λ n. c.loop-bucket.out.items ++ row (b, n)) c.count_at.ensures
    ∙ ap (λ r. c.loop-bucket.out.items ++ row r) (row_is h.counts b) in
    put ∙ ap (λ l. l ++ row (row_at h.counts b)) c.loop-bucket.invariant
    ∙ append_assoc c.args.out.now.items (flat_map row (map (row_at h.counts) (range_with_len start (b - start)))) (row (row_at h.counts b))
    ∙ ap (λ l. c.args.out.now.items ++ l) (sym (rows_more row h.counts start b c.loop-bucket.auto.bucket))

pub returns : goal.returns
returns c =
    let h = c.args.histogram.now in
    let first = c.in-Some.first in
    let last = c.in-Some.last in
    let span = c.in-Some.ensures in
    let start : c.saturating_sub-start.result ≡ first - 1 = c.saturating_sub-start.ensures in
    let long = c.scale-scale.ensures.long in
    let most = c.buckets.ensures in
    let add = c.saturating_add.ensures in
    let least = c.min-end.ensures in
    let end : c.min-end.result ≡ min (last + 2) (length h.counts) = omega arith in
    let up = ordered h.counts first last span in
    let inside = last_within h.counts first last span in
    let stop : c.loop-bucket.bucket ≡ c.min-end.result =
    (let le = c.loop-bucket.auto.bucket-end (omega arith) in let past = c.loop-bucket-test.false in omega arith) in
    c.loop-bucket.invariant
    ∙ ap (λ n. c.args.out.now.items ++ flat_map (row_bytes h.scale (sum h.counts)) (map (row_at h.counts) (range_with_len c.saturating_sub-start.result (n - c.saturating_sub-start.result)))) stop
    ∙ ap (λ s. c.args.out.now.items ++ flat_map (row_bytes h.scale (sum h.counts)) (map (row_at h.counts) (range_with_len s (c.min-end.result - s)))) start
    ∙ ap (λ l. c.args.out.now.items ++ flat_map (row_bytes h.scale (sum h.counts)) l) (sym (rows_are h first last c.min-end.result span end))
