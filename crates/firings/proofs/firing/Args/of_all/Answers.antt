use Rattle.std.proofs.Common.{arith, refl}
use Rattle.firings.proofs.Stored.{ten_same}
use Rattle.firings.proofs.firing.Args.of_all.Goals as goal

pub returns : goal.returns
returns c =
    let numbers = c.args.numbers.now in
    rw (c.of.ensures, c.as_slice.ensures) (ten_same numbers numbers (omega arith) (λ i. refl))
