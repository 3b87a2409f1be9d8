use Rattle.std.proofs.Common.{◌+◌, ◌<◌, ◌≤◌, ◌^◌, sym, subst, ap, ◌∙◌, sum, arith}
use Rattle.std.proofs.lemmas.Result.{on_err_weaker, on_ok_weaker}
use Rattle.d_values.proofs.Storing.{on_either}
use Rattle.aggregations.specs.Buckets.{buckets}
use Rattle.aggregations.specs.Histograms.{AreUsed, used_at, counts_used}
use Rattle.aggregations.specs.Steps.Histograms.{with_more}
use Rattle.aggregations.proofs.HistogramLemmas.{count-le_sum, kept_put, put_used, seen}
use Rattle.aggregations.proofs.histogram.Histogram.add.Goals as goal

pub put_more-requires : goal.put_more-requires
put_more-requires c =
    let used = c.self.inside.used.entries in
    let few = subst (λ h. used_at used c.args.bucket ≤ sum h.counts) c.self.view_is (count-le_sum c.self.inside.scale used c.args.bucket c.self.invariant) in
    omega arith

pub invariant_of-self : goal.invariant_of-self
invariant_of-self c =
    let f = c.self.inside.scale in
    let used = c.self.inside.used.entries in
    let within = subst (λ h. c.args.bucket < buckets h.scale) (sym c.self.view_is) c.requires.bucket in
    let room = subst (λ h. sum h.counts + c.args.more ≤ 2 ^ 52) (sym c.self.view_is) c.requires.room in
    on_either c.put_more.result c.put_more.ensures.ok c.put_more.ensures.err
    (λ put. kept_put f used c.put_more.new.used.entries c.args.bucket c.args.more within c.requires.some c.self.invariant room put.0.0 put.1)
    (λ same. subst (AreUsed f) (sym same) c.self.invariant)

pub returns : goal.returns
returns c =
    let f = c.self.inside.scale in
    let used = c.self.inside.used.entries in
    let within = subst (λ h. c.args.bucket < buckets h.scale) (sym c.self.view_is) c.requires.bucket in
    record {
      ok = on_ok_weaker c.put_more.result (λ put. put_used f used c.put_more.new.used.entries c.args.bucket c.args.more within put.0.0 ∙ ap (λ h. with_more h c.args.bucket c.args.more) c.self.view_is) c.put_more.ensures.ok;
      err = on_err_weaker c.put_more.result (λ same. ap (λ es. seen f (counts_used f es)) same ∙ c.self.view_is) c.put_more.ensures.err;
    }
