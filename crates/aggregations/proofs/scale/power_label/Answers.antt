use Rattle.std.proofs.Common.{◌-◌, arith, sym, subst, ◌∙◌}
use Rattle.std.specs.Prelude.{pos, ◌-ℤ◌, FitsSigned}
use mir.Syntax.{w64}
use Rattle.std.proofs.lemmas.Int.{ints}
use Rattle.aggregations.proofs.BucketLemmas.{powers, high_label, power_shifted}
use Rattle.aggregations.proofs.scale.power_label.Goals as goal

pub overflow_sub-result-then-bucket-lt63 : goal.overflow_sub-result-then-bucket-lt63
overflow_sub-result-then-bucket-lt63 c =
    let k = 62 - c.args.bucket in
    let p = powers k 62 (omega arith) in
    subst (λ z. FitsSigned w64 (pos 0 -ℤ z)) (sym (power_shifted k (omega arith))) (omega (arith, ints))

pub returns-else-bucket-eq63 : goal.returns-else-bucket-eq63
returns-else-bucket-eq63 c =
    let b = c.args.bucket in
    power_shifted (b - 64) (omega arith) ∙ sym (high_label b (b - 64) (omega arith) (omega arith))
