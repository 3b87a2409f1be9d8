use Rattle.std.proofs.Common.{◌≡◌, ◌+◌, ◌-◌, ◌<◌, ◌≤◌, ◌^◌, suc, subst, arith}
use Rattle.std.specs.Int.Count.{count_leading_zeros}
use Rattle.std.proofs.lemmas.Nat.{leading_top}
use Rattle.aggregations.proofs.scale.top_bit.Goals as goal

pub returns : goal.returns
returns c =
    let n = c.args.n in
    let fits : n < 2 ^ 64 = omega arith in
    let top = leading_top 64 n c.requires fits in
    let sum = top.1 in
    let is : top.0 ≡ 63 - count_leading_zeros 64 n = omega arith in
    let next : suc top.0 ≡ 63 - count_leading_zeros 64 n + 1 = omega arith in
    record { at_least = subst (λ j. 2 ^ j ≤ n) is top.2; below = subst (λ j. n < 2 ^ j) next top.3; small = omega arith }
