use Rattle.std.proofs.Common.{map, rules, arith, ◌≡◌, ◌+◌, ◌-◌, get_or, refl, w32}
use Rattle.std.proofs.lemmas.Int.{to_z-of_z}
use Rattle.firings.specs.Stored.{no_owner, no_probe}
use Rattle.firings.specs.Units.{owner_in, probe_in}
use Rattle.firings.proofs.Stored.{named_at}
use Rattle.firings.proofs.firing_rows.firing_of.Goals as goal

pub returns : goal.returns
returns c =
    let row = c.args.row in
    let owners = map owner_in c.args.owners.now in
    let probes = map probe_in c.args.probes.now in
    let o = c.owner_at-cpu.result in
    let p = c.probe_at-provider.result in
    let owner : get_or owners row.owner no_owner ≡ o = named_at owners row.owner o no_owner c.owner_at-cpu.ensures in
    let probe : get_or probes row.probe no_probe ≡ p = named_at probes row.probe p no_probe c.probe_at-provider.ensures in
    let span : (row.first + row.count) - row.first ≡ row.count = omega arith in
    rw (owner, probe, to_z-of_z w32 o.cpu (search rules), to_z-of_z w32 o.thread (search rules), to_z-of_z w32 o.pid (search rules), c.of.ensures, span) refl
