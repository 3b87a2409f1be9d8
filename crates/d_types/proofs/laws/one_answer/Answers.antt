use Rattle.std.proofs.Common.{refl}
use Rattle.d_types.proofs.Checked.{some_answer, one_answer, fault_is_named}
use Rattle.d_types.proofs.laws.one_answer.Goals as goal

pub returns-clause-some : goal.returns-clause-some
returns-clause-some c source = some_answer source

pub returns-clause-only : goal.returns-clause-only
returns-clause-only c source a b g h = one_answer source a b g h

pub returns-clause-named : goal.returns-clause-named
returns-clause-named c source h = fault_is_named source _ h refl
