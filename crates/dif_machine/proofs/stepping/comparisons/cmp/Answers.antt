use Rattle.std.proofs.Common.{refl}
use Rattle.dif_machine.proofs.Executing.{goes}
use Rattle.dif_machine.proofs.stepping.comparisons.cmp.Goals as goal

pub returns : goal.returns
returns c = λ o f. goes _ o f _ _ _ c.compare.ensures (λ index vars. rw (c.number.ensures, c.number-2.ensures, c.compare_numbers-known.ensures) refl)
