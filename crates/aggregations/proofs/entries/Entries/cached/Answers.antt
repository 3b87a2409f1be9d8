use Rattle.std.proofs.Common.{sym, rules}
use Rattle.numbered.proofs.Indices.{found_here}
use Rattle.aggregations.proofs.IndexLemmas.{at_view}
use Rattle.aggregations.proofs.entries.Entries.cached.Goals as goal

pub returns-then-is_key_of : goal.returns-then-is_key_of
returns-then-is_key_of c =
    let e = c.in_ok-key.ensures in
    at_view _ _ _ _ c.self.view_is (found_here c.self.inside.map.entries _ _ _ _ (sym e.entry) (c.is_key_of.ensures (search rules)) e.value)
