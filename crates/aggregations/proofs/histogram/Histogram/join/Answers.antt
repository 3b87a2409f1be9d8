use Rattle.std.proofs.Common.{◌≡◌, [], sum, sym, subst, ap, ◌∙◌, rules, arith}
use Rattle.aggregations.specs.Buckets.{buckets}
use Rattle.aggregations.specs.Histograms.{histogram_of}
use Rattle.aggregations.proofs.HistogramLemmas.{Joining, joining_start, joining_room, joining_more}
use Rattle.aggregations.proofs.HistogramLemmas.{joining_all, kept_front}
use Rattle.aggregations.proofs.histogram.Histogram.join.Goals as goal

pub loop-bucket-init : goal.loop-bucket-init
loop-bucket-init c =
    let f = c.self.inside.scale in
    let g = c.other.inside.scale in
    let all = c.other.inside.used.entries in
    let many : buckets f ≡ buckets g = search rules in
    let starts : c.into_iter-bucket-iterator.result ≡ all = search rules in
    subst (λ l. Joining c.args.self.now c.args.other.now l c.args.self.now) (sym starts)
    (rw (← c.self.view_is, ← c.other.view_is) (joining_start f g c.self.inside.used.entries all many c.other.invariant))

pub add-requires : goal.add-requires
add-requires c =
    let other = c.args.other.now in
    let rest = c.next.new.self in
    let j = subst (λ l. Joining c.args.self.now other l c.loop-bucket.self) c.in-Some.ensures.steps c.loop-bucket.invariant in
    let front = kept_front other.scale c.in-Some.bucket.now c.in-Some.more.now rest j.are in
    let many = ap buckets j.scale ∙ j.many in
    let room = joining_room c.args.self.now other c.loop-bucket.self rest c.in-Some.bucket.now c.in-Some.more.now j in
    record { bucket = omega arith; some = front.1; room = omega arith }

pub loop-bucket-preserved : goal.loop-bucket-preserved
loop-bucket-preserved c =
    let first = c.args.self.now in
    let other = c.args.other.now in
    let rest = c.next.new.self in
    let j = subst (λ l. Joining first other l c.loop-bucket.self) c.in-Some.ensures.steps c.loop-bucket.invariant in
    subst (λ h. Joining first other rest h) (sym c.in_ok-add.ensures.ok) (joining_more first other c.loop-bucket.self rest c.in-Some.bucket.now c.in-Some.more.now j)

pub returns-in-None-clause-value : goal.returns-in-None-clause-value
returns-in-None-clause-value c = λ scale xs ys a b.
    let now = c.loop-bucket.self in
    let end : c.loop-bucket.bucket-iterator ≡ [] = search rules in
    let j = subst (λ l. Joining c.args.self.now c.args.other.now l now) end c.loop-bucket.invariant in
    joining_all scale now xs ys (subst (λ h. Joining h (histogram_of scale ys) [] now) a (subst (λ h. Joining c.args.self.now h [] now) b j))

pub returns-in_err-add-clause-count : goal.returns-in_err-add-clause-count
returns-in_err-add-clause-count c =
    let same : sum c.add.new.self.counts ≡ sum c.loop-bucket.self.counts = ap (λ h. sum h.counts) c.in_err-add.ensures.err in
    omega arith
