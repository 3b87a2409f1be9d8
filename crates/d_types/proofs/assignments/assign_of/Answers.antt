use Rattle.std.proofs.Common.{rules}
use Rattle.d_types.proofs.Rows.{keys_are}
use Rattle.d_types.proofs.assignments.assign_of.Goals as goal

pub returns : goal.returns
returns c = rw (keys_are c.args.to.keys) (search rules)
