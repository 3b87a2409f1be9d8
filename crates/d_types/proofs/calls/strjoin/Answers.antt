use Rattle.std.proofs.Common.{sym}
use Rattle.d_types.proofs.Arguments.{two_arguments, not_two}
use Rattle.d_types.proofs.calls.strjoin.Goals as goal

pub returns-in-Some-only : goal.returns-in-Some-only
returns-in-Some-only c = rw (two_arguments _ _ c.in-Some.y c.in-Some.ensures.items c.in-Some-only.x c.in-Some-only.ensures) c.join.ensures

pub returns-in-None : goal.returns-in-None
returns-in-None c = record { ok = sym (not_two _ _ c.in-Some.y c.in-Some.ensures.items c.in-None.ensures) }
