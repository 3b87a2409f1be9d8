use Rattle.std.proofs.Common.{ap, ◌∙◌}
use Rattle.d_values.specs.Stores.{kind_of}
use Rattle.d_values.proofs.Storing.{kind_of-local_of}
use Rattle.d_values.proofs.clause_locals.ClauseLocals.get.Goals as goal

pub returns-clause-kind : goal.returns-clause-kind
returns-clause-kind c = ap kind_of c.find.ensures ∙ kind_of-local_of c.self.inside.map.entries c.args.var c.self.invariant
