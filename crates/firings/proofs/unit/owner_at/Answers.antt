use Rattle.std.proofs.Common.{rules, w32}
use Rattle.std.proofs.lemmas.Int.{to_z-of_z}
use Rattle.firings.specs.Units.{owner_in}
use Rattle.firings.proofs.Stored.{seen_at}
use Rattle.firings.proofs.unit.owner_at.Goals as goal

pub returns : goal.returns
returns c =
    let e = c.at.result.1 in
    let is = seen_at owner_in c.args.owners.now c.args.index (c.at.result.0.now, e) c.at.ensures.there in
    rw (to_z-of_z w32 e.cpu (search rules), to_z-of_z w32 e.thread (search rules), to_z-of_z w32 e.pid (search rules), c.within.ensures) is
