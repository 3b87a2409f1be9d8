use Rattle.std.proofs.Common.{sym}
use Rattle.d_values.specs.KeyLaws.{same_key_decides}
use Rattle.numbered.proofs.Indices.{found_there}
use Rattle.aggregations.proofs.IndexLemmas.{at_view}
use Rattle.aggregations.proofs.entries.Entries.find.Goals as goal

pub returns : goal.returns
returns c = let e = c.in_ok-index.ensures in at_view _ _ _ _ c.self.view_is (found_there c.self.inside.map.entries _ _ _ _ e.entry same_key_decides (sym e.key) (sym e.value))
