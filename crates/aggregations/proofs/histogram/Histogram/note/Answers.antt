use Rattle.std.proofs.Common.{◌≡◌, ℕ, ◌<◌, ◌==◌, ◌∙◌, subst, ap}
use Rattle.std.proofs.lemmas.Int.{to_z-of_z}
use Rattle.std.proofs.lemmas.Result.{on_ok_weaker}
use Rattle.aggregations.specs.Buckets.{buckets, is_in}
use Rattle.aggregations.proofs.HistogramLemmas.{histogram_noted}
use Rattle.aggregations.proofs.histogram.Histogram.note.Goals as goal

pub returns-clause-value : goal.returns-clause-value
returns-clause-value c =
    let arg = c.ranges.arg in
    let k = c.bucket_of-bucket.result in
    let only = simp to_z-of_z at c.bucket_of-bucket.ensures.only in
    record {
      ok = on_ok_weaker c.add.result (λ is scale args was.
          let same : c.self.inside.scale ≡ scale = ap (λ h. h.scale) (c.self.view_is ∙ was) in
          histogram_noted scale c.args.self.now c.add.new.self k c.args.arg args (subst (λ f. k < buckets f) same c.bucket_of-bucket.ensures.within)
          (subst (λ f. (b : ℕ) → b < buckets f → is_in f b c.args.arg ≡ (b == k)) same only) was is) c.add.ensures.ok;
      err = c.add.ensures.err;
    }
