use Rattle.std.proofs.Common.{◌≡◌, ◌+◌, ◌-◌, ◌<◌, ◌^◌, ◌==◌, rules, arith, sym, ap, ◌∙◌}
use Rattle.std.specs.Prelude.{pos, neg_ℤ, ◌<ℤ◌, ◌≤ℤ◌}
use Rattle.std.proofs.lemmas.Int.{ints, to_z-of_z}
use Rattle.aggregations.proofs.BucketLemmas.{exponent_lt, above_zero, below_zero}
use Rattle.aggregations.proofs.scale.power_bucket.Goals as goal

pub returns-then-x-lt0-clause-only : goal.returns-then-x-lt0-clause-only
returns-then-x-lt0-clause-only c =
    let x = c.ranges.x in
    let m = c.unsigned_abs.result in
    let value = simp to_z-of_z at c.unsigned_abs.ensures.value in
    let negative : c.args.x <ℤ pos 0 = search rules in
    let is : c.args.x ≡ neg_ℤ (pos m) = omega (arith, ints) in
    let some : 0 < m = omega (arith, ints) in
    let least = c.min.ensures in
    λ b lt. below_zero c.args.x m c.top_bit.result is some c.top_bit.ensures.at_least c.top_bit.ensures.below b lt ∙ ap (λ k. b == 62 - k) (sym least)

pub returns-else-x-eq0 : goal.returns-else-x-eq0
returns-else-x-eq0 c =
    let x = c.ranges.x in
    let k = c.top_bit-else-x-eq0.result in
    let m = c.unsigned_abs-else-x-eq0.result in
    let value = simp to_z-of_z at c.unsigned_abs-else-x-eq0.ensures.value in
    let positive : pos 0 ≤ℤ c.args.x = search rules in
    let bound : m < 2 ^ 63 = omega (arith, ints) in
    let is : c.args.x ≡ pos m = omega (arith, ints) in
    let small : k < 63 = exponent_lt k 63 m c.top_bit-else-x-eq0.ensures.at_least bound in
    let within : 64 + k < 127 = omega arith in
    record { within = within; only = above_zero c.args.x m k is c.top_bit-else-x-eq0.ensures.at_least c.top_bit-else-x-eq0.ensures.below small }
