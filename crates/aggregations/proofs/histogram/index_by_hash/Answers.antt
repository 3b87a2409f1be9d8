use Rattle.std.proofs.Common.{sym}
use Rattle.std.proofs.lemmas.Bool.Decides.{Decides-eqb}
use Rattle.numbered.proofs.Indices.{found_there}
use Rattle.aggregations.proofs.histogram.index_by_hash.Goals as goal

pub returns : goal.returns
returns c = let e = c.in_ok-index.ensures in found_there _ _ _ _ _ e.entry Decides-eqb (sym e.key) (sym e.value)
