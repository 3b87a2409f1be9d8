use Rattle.std.proofs.Common.{map, ◌≡◌, ◌<◌, Some, sym, ap, ◌∙◌, refl, slice_get, length}
use Rattle.std.proofs.lemmas.List.{length-map}
use Rattle.std.proofs.lemmas.Option.{slice_get-map, slice_get-get_or}
use Rattle.firings.specs.Stored.{firing_in}
use Rattle.firings.specs.Units.{owner_in, probe_in}
use Rattle.firings.proofs.firings.Firings.get.Goals as goal

pub returns : goal.returns
returns c =
    let row = c.index.result.now in
    let owners = map owner_in c.self.inside.owners in
    let probes = map probe_in c.self.inside.probes in
    let args = c.self.inside.args.items in
    let rows = c.self.inside.rows.items in
    let within : c.args.at < length rows = rw (← length-map rows (firing_in owners probes args)) (rw c.self.view_is c.requires) in
    let found : slice_get rows c.args.at ≡ Some row = slice_get-get_or rows c.args.at row within ∙ ap (λ (r : _). Some r) (sym c.index.ensures) in
    rw (← c.self.view_is, c.firing_of.ensures, c.deref.ensures.value) (slice_get-map (firing_in owners probes args) rows c.args.at ∙ rw found refl)
