use Rattle.std.proofs.lemmas.Int.{quot-rem, rem_below}
use Rattle.std.proofs.Common.{refl}
use Rattle.std.specs.Prelude.{pos, negsuc, suc, ◌/◌}
use Rattle.d_values.proofs.Residues.{abs_neg}
use Rattle.d_values.proofs.laws.division.Goals as goal

pub returns-clause-whole : goal.returns-clause-whole
returns-clause-whole c x y = quot-rem x y

pub returns-clause-rest : goal.returns-clause-rest
returns-clause-rest c x y some = rem_below x y some

pub returns-clause-toward_zero : goal.returns-clause-toward_zero
returns-clause-toward_zero c (pos m) (pos n) = refl
returns-clause-toward_zero c (pos m) (negsuc n) = abs_neg (m / suc n)
returns-clause-toward_zero c (negsuc m) (pos n) = abs_neg (suc m / n)
returns-clause-toward_zero c (negsuc m) (negsuc n) = refl
