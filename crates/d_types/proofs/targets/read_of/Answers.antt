use Rattle.std.proofs.Common.{ap}
use Rattle.d_types.specs.Typed as typed
use Rattle.d_types.proofs.Rows.{keys_are}
use Rattle.d_types.proofs.targets.read_of.Goals as goal

pub returns : goal.returns
returns c = ap (typed.Read c.args.variable) (keys_are c.args.keys)
