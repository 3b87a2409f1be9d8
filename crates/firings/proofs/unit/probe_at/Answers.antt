use Rattle.firings.specs.Units.{probe_in}
use Rattle.firings.proofs.Stored.{seen_at}
use Rattle.firings.proofs.unit.probe_at.Goals as goal

pub returns : goal.returns
returns c =
    let is = seen_at probe_in c.args.probes.now c.args.index (c.at.result.0.now, c.at.result.1) c.at.ensures.there in
    rw (c.within.ensures, c.within-2.ensures, c.within-3.ensures, c.within-4.ensures) is
