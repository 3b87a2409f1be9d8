use Rattle.std.proofs.Common.{sym}
use Rattle.numbered.proofs.Indices.{found_here}
use Rattle.numbered.proofs.word_table.is_at.Goals as goal

pub returns-in-Some : goal.returns-in-Some
returns-in-Some c = λ is. let e = c.in-Some.ensures in found_here _ _ _ _ _ (sym e.entry) (c.is.ensures is) e.value
