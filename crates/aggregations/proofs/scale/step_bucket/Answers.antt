use Rattle.std.proofs.Common.{◌≡◌, ◌+◌, ◌<◌, ◌==◌, ◌/◌, min, rules, arith, sym, ap, ◌∙◌}
use Rattle.std.specs.Prelude.{pos, ◌+ℤ◌, ◌≤ℤ◌, FitsSigned}
use mir.Syntax.{w64}
use Rattle.std.proofs.lemmas.Int.{ints, to_z-of_z}
use Rattle.aggregations.specs.Buckets as spec
use Rattle.aggregations.proofs.BucketLemmas.{level_only}
use Rattle.aggregations.proofs.scale.step_bucket.Goals as goal

pub returns-else-x-lower-clause-only : goal.returns-else-x-lower-clause-only
returns-else-x-lower-clause-only c =
    let x = c.ranges.x in
    let r = c.args.range in
    let d = c.abs_diff.result in
    let lower : c.from-lower.result ≡ r.lower = search rules in
    let fits : FitsSigned w64 c.from-lower.result = search rules in
    let above : c.from-lower.result ≤ℤ c.args.x = search rules in
    let difference = simp to_z-of_z at c.abs_diff.ensures in
    let is : c.args.x ≡ r.lower +ℤ pos d = omega (arith, ints) in
    let some : 0 < r.step = search rules in
    let least : c.min.result ≡ min (d / r.step) (spec.levels_of r) =
    c.min.ensures ∙ ap (λ s. min (d / s) c.from-else-x-lower.result) (c.from.ensures ∙ c.step.ensures)
    ∙ ap (λ l. min (d / r.step) l) (c.from-else-x-lower.ensures ∙ c.levels.ensures) in
    λ b lt. level_only r c.args.x d is some b lt ∙ ap (λ k. b == k + 1) (sym least)
