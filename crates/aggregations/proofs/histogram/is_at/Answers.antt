use Rattle.std.proofs.Common.{sym, rules}
use Rattle.numbered.proofs.Indices.{found_here}
use Rattle.aggregations.proofs.histogram.is_at.Goals as goal

pub returns-in-Some : goal.returns-in-Some
returns-in-Some c = λ is. let e = c.in-Some.ensures in found_here _ _ _ _ _ (sym e.entry) (search rules) e.value
