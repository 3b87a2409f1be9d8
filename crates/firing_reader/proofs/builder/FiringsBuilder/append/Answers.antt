use Rattle.std.proofs.Common.{map, ◌≡◌, ◌<◌, ◌^◌, ◌++◌, length}
use Rattle.firings.specs.Units.{owner_in, probe_in}
use Rattle.firing_reader.proofs.Moved.{all_movable, appended_in, appended_same}
use Rattle.firing_reader.proofs.Shared.{seen_extends, seen_indices}
use Rattle.firing_reader.proofs.builder.FiringsBuilder.append.Goals as goal

pub add_rows-requires : goal.add_rows-requires
add_rows-requires c =
    let own = c.self.inside.args.items in
    let other = c.others.inside in
    let both : c.add_arguments.new.all.items ≡ own ++ other.args.items = rw (← c.deref.ensures.value) c.in_ok-shift.ensures.1.1 in
    let few : length (own ++ other.args.items) < 2 ^ 32 = rw both at c.in_ok-shift.ensures.1.2 in
    let owners = seen_indices owner_in c.indices_of.new.self c.in_ok-owner_indices.owner_indices.items other.owners c.in_ok-owner_indices.ensures.1 in
    let probes = seen_indices probe_in c.indices_of-2.new.self c.in_ok-probe_indices.probe_indices.items other.probes c.in_ok-probe_indices.ensures.1 in
    rw (c.deref-3.ensures.value, c.deref-4.ensures.value, c.deref-2.ensures.value, c.in_ok-shift.ensures.1.0)
    (all_movable (map owner_in c.indices_of.new.self) (map owner_in other.owners) c.in_ok-owner_indices.owner_indices.items (map probe_in c.indices_of-2.new.self) (map probe_in other.probes)
    c.in_ok-probe_indices.probe_indices.items own other.args.items other.rows.items owners probes few c.others.invariant)

pub invariant_of-self-2 : goal.invariant_of-self-2
invariant_of-self-2 c =
    let own = c.self.inside in
    let other = c.others.inside in
    let both : c.add_arguments.new.all.items ≡ own.args.items ++ other.args.items = rw (← c.deref.ensures.value) c.in_ok-shift.ensures.1.1 in
    let owners = seen_indices owner_in c.indices_of.new.self c.in_ok-owner_indices.owner_indices.items other.owners c.in_ok-owner_indices.ensures.1 in
    let probes = seen_indices probe_in c.indices_of-2.new.self c.in_ok-probe_indices.probe_indices.items other.probes c.in_ok-probe_indices.ensures.1 in
    appended_in c.add_rows.result (map owner_in own.owners) (map owner_in c.indices_of.new.self) (map owner_in other.owners) c.in_ok-owner_indices.owner_indices.items (map probe_in own.probes)
    (map probe_in c.indices_of-2.new.self) (map probe_in other.probes) c.in_ok-probe_indices.probe_indices.items own.args.items other.args.items c.add_arguments.new.all.items own.rows.items other.rows.items
    c.add_rows.new.rows.items (seen_extends owner_in own.owners c.indices_of.new.self c.indices_of.ensures.0) (seen_extends probe_in own.probes c.indices_of-2.new.self c.indices_of-2.ensures.0) owners probes both
    c.self.invariant c.others.invariant (rw (c.deref-3.ensures.value, c.deref-4.ensures.value, c.deref-2.ensures.value, c.in_ok-shift.ensures.1.0) at c.add_rows.ensures)

pub returns : goal.returns
returns c =
    let own = c.self.inside in
    let other = c.others.inside in
    let both : c.add_arguments.new.all.items ≡ own.args.items ++ other.args.items = rw (← c.deref.ensures.value) c.in_ok-shift.ensures.1.1 in
    let owners = seen_indices owner_in c.indices_of.new.self c.in_ok-owner_indices.owner_indices.items other.owners c.in_ok-owner_indices.ensures.1 in
    let probes = seen_indices probe_in c.indices_of-2.new.self c.in_ok-probe_indices.probe_indices.items other.probes c.in_ok-probe_indices.ensures.1 in
    rw (← c.self.view_is, ← c.others.view_is)
    (appended_same c.add_rows.result (map owner_in own.owners) (map owner_in c.indices_of.new.self) (map owner_in other.owners) c.in_ok-owner_indices.owner_indices.items (map probe_in own.probes)
    (map probe_in c.indices_of-2.new.self) (map probe_in other.probes) c.in_ok-probe_indices.probe_indices.items own.args.items other.args.items c.add_arguments.new.all.items own.rows.items other.rows.items
    c.add_rows.new.rows.items (seen_extends owner_in own.owners c.indices_of.new.self c.indices_of.ensures.0) (seen_extends probe_in own.probes c.indices_of-2.new.self c.indices_of-2.ensures.0) owners probes both
    c.self.invariant c.others.invariant (rw (c.deref-3.ensures.value, c.deref-4.ensures.value, c.deref-2.ensures.value, c.in_ok-shift.ensures.1.0) at c.add_rows.ensures))
