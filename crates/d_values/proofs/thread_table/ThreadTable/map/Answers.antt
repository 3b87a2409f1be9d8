use Rattle.std.proofs.Common.{subst}
use Rattle.d_values.specs.Stores.{AreOwn}
use Rattle.d_values.proofs.thread_table.ThreadTable.map.Goals as goal

pub returns-clause-set : goal.returns-clause-set
returns-clause-set c = subst AreOwn c.self.view_is c.self.invariant
