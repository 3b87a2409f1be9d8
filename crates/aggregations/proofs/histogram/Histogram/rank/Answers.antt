use Rattle.std.proofs.Common.{◌≡◌, ◌∷◌, [], rules, refl, sym, subst, ap, ◌∙◌, to_z, of_z}
use Rattle.std.specs.Prelude.{pos, ◌+ℤ◌, ◌*ℤ◌, FitsSigned}
use mir.Syntax.{w128}
use Rattle.std.proofs.lemmas.Int.{to_z-of_z}
use Rattle.aggregations.specs.Buckets.{label}
use Rattle.aggregations.specs.Figures.{rank_of}
use Rattle.aggregations.specs.Figures.Figure.{Distribution}
use Rattle.aggregations.proofs.HistogramLemmas.{kept_front}
use Rattle.aggregations.proofs.RankLemmas.{Ranking, ranking_start, ranking_more, ranking_fits}
use Rattle.aggregations.proofs.RankLemmas.{ranking_all}
use Rattle.aggregations.proofs.histogram.Histogram.rank.Goals as goal

pub label-requires : goal.label-requires
label-requires c =
    let f = c.self.inside.scale in
    let r = subst (λ l. Ranking f c.self.inside.used.entries l (to_z w128 c.loop-bucket.rank-bits)) c.in-Some.ensures.steps c.loop-bucket.invariant in
    (kept_front f c.in-Some.bucket.now c.in-Some.count.now c.next.new.self r.are).0

pub loop-bucket-init : goal.loop-bucket-init
loop-bucket-init c =
    let f = c.self.inside.scale in
    let all = c.self.inside.used.entries in
    let starts : c.into_iter-bucket-iterator.result ≡ all = search rules in
    subst (λ l. Ranking f all l (pos 0)) (sym starts) (ranking_start f all c.self.invariant)

turn : (c : goal.After-from-in-loop-bucket)
    → Ranking c.self.inside.scale c.self.inside.used.entries ((c.in-Some.bucket.now, c.in-Some.count.now) ∷ c.next.new.self) (to_z w128 c.loop-bucket.rank-bits)
turn c = subst (λ l. Ranking c.self.inside.scale c.self.inside.used.entries l (to_z w128 c.loop-bucket.rank-bits)) c.in-Some.ensures.steps c.loop-bucket.invariant

-- what is added, and that it and the sum fit
added : (c : goal.After-from-in-loop-bucket)
    → (to_z w128 (of_z w128 c.from.result) *ℤ to_z w128 (of_z w128 c.from-in-loop-bucket.result) ≡ label c.self.inside.scale c.in-Some.bucket.now *ℤ pos c.in-Some.count.now)
    × FitsSigned w128 (label c.self.inside.scale c.in-Some.bucket.now *ℤ pos c.in-Some.count.now)
    × FitsSigned w128 (to_z w128 c.loop-bucket.rank-bits +ℤ label c.self.inside.scale c.in-Some.bucket.now *ℤ pos c.in-Some.count.now)
added c =
    let first : to_z w128 (of_z w128 c.from.result) ≡ label c.self.inside.scale c.in-Some.bucket.now = search rules in
    let second : to_z w128 (of_z w128 c.from-in-loop-bucket.result) ≡ pos c.in-Some.count.now = search rules in
    let fits = ranking_fits c.self.inside.scale c.self.inside.used.entries c.next.new.self _ _ _ (turn c) c.self.invariant in
    (rw (first, second) refl, fits.0, fits.1)

sum_is : (c : goal.After-from-in-loop-bucket)
    → to_z w128 c.loop-bucket.rank-bits +ℤ to_z w128 (of_z w128 (to_z w128 (of_z w128 c.from.result) *ℤ to_z w128 (of_z w128 c.from-in-loop-bucket.result)))
    ≡ to_z w128 c.loop-bucket.rank-bits +ℤ label c.self.inside.scale c.in-Some.bucket.now *ℤ pos c.in-Some.count.now
sum_is c = ap (λ z. to_z w128 c.loop-bucket.rank-bits +ℤ z) (ap (λ z. to_z w128 (of_z w128 z)) (added c).0 ∙ to_z-of_z w128 _ (added c).1)

pub overflow_mul-rank : goal.overflow_mul-rank
overflow_mul-rank c = subst (FitsSigned w128) (sym (added c).0) (added c).1

pub overflow_add-rank : goal.overflow_add-rank
overflow_add-rank c = subst (FitsSigned w128) (sym (sum_is c)) (added c).2

pub loop-bucket-preserved : goal.loop-bucket-preserved
loop-bucket-preserved c =
    subst (λ z. Ranking c.self.inside.scale c.self.inside.used.entries c.next.new.self z) (sym (ap (λ z. to_z w128 (of_z w128 z)) (sum_is c) ∙ to_z-of_z w128 _ (added c).2))
    (ranking_more c.self.inside.scale c.self.inside.used.entries c.next.new.self _ _ _ (turn c))

pub returns : goal.returns
returns c =
    let f = c.self.inside.scale in
    let all = c.self.inside.used.entries in
    let end : c.loop-bucket.bucket-iterator ≡ [] = search rules in
    let r = subst (λ l. Ranking f all l (to_z w128 c.loop-bucket.rank-bits)) end c.loop-bucket.invariant in
    ranking_all f all _ r ∙ ap (λ h. rank_of (Distribution h)) c.self.view_is
