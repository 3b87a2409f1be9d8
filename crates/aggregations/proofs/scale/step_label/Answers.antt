use Rattle.std.proofs.Common.{◌≡◌, suc, ◌-◌, ◌*◌, ◌<◌, ◌^◌, rules, arith, refl, sym, subst, ap, ◌∙◌, to_z, of_z}
use Rattle.std.specs.Prelude.{pos, ◌+ℤ◌, ◌*ℤ◌, FitsSigned}
use mir.Syntax.{w32, w64}
use Rattle.std.proofs.lemmas.Int.{ints, to_z-of_z}
use Rattle.aggregations.specs.declared.scale.Scale.TheVariants.{Steps}
use Rattle.aggregations.specs.Buckets as spec
use Rattle.aggregations.proofs.BucketLemmas.{steps_small}
use Rattle.aggregations.proofs.scale.step_label.Goals as goal

-- what is added, and that it and the sum fit
added : (c : goal.After-from-else-bucket-eq0-3)
    → (to_z w64 (of_z w64 c.from-else-bucket-eq0-2.result) *ℤ to_z w64 (of_z w64 c.from-else-bucket-eq0-3.result) ≡ pos ((c.args.bucket - 1) * c.args.range.step))
    × FitsSigned w64 (pos ((c.args.bucket - 1) * c.args.range.step)) × FitsSigned w64 (c.args.range.lower +ℤ pos ((c.args.bucket - 1) * c.args.range.step))
added c =
    let i = c.args.bucket - 1 in
    let s = c.args.range.step in
    let first : to_z w64 (of_z w64 c.from-else-bucket-eq0-2.result) ≡ pos i = search rules in
    let second : to_z w64 (of_z w64 c.from-else-bucket-eq0-3.result) ≡ pos s = search rules in
    let wide : s < 2 ^ 16 = search rules in
    let narrow : FitsSigned w32 c.args.range.lower = search rules in
    let small = steps_small i s (omega arith) wide in
    (rw (first, second) refl, omega (arith, ints), omega (arith, ints))

sum_is : (c : goal.After-from-else-bucket-eq0-3)
    → to_z w64 (of_z w64 c.from-else-bucket-eq0.result) +ℤ to_z w64 (of_z w64 (to_z w64 (of_z w64 c.from-else-bucket-eq0-2.result) *ℤ to_z w64 (of_z w64 c.from-else-bucket-eq0-3.result)))
    ≡ c.args.range.lower +ℤ pos ((c.args.bucket - 1) * c.args.range.step)
sum_is c =
    let lower : to_z w64 (of_z w64 c.from-else-bucket-eq0.result) ≡ c.args.range.lower = search rules in
    rw (lower, (added c).0) (ap (λ product. c.args.range.lower +ℤ product) (to_z-of_z w64 _ (added c).1))

pub overflow_mul-result : goal.overflow_mul-result
overflow_mul-result c = subst (FitsSigned w64) (sym (added c).0) (added c).1

pub overflow_add-result : goal.overflow_add-result
overflow_add-result c = subst (FitsSigned w64) (sym (sum_is c)) (added c).2

pub returns-else-bucket-eq0 : goal.returns-else-bucket-eq0
returns-else-bucket-eq0 c =
    let next : c.args.bucket ≡ suc (c.args.bucket - 1) = omega arith in
    ap (λ z. to_z w64 (of_z w64 z)) (sum_is c) ∙ to_z-of_z w64 _ (added c).2 ∙ ap (spec.label (Steps c.args.range)) (sym next)
