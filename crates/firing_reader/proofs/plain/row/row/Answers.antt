use Rattle.std.proofs.Common.{map, refl}
use Rattle.firings.specs.declared.stored_row.Row.{Row}
use Rattle.firings.specs.Units.{owner_in, probe_in}
use Rattle.firings.proofs.Stored.{seen_at}
use Rattle.firing_reader.proofs.RowParts.{row_in, row_parts}
use Rattle.firing_reader.proofs.Shared.{owner_read, probe_read}
use Rattle.firing_reader.proofs.plain.row.row.Goals as goal

pub returns : goal.returns
returns c =
    let r : Row = record { number = c.in_ok-number.number; time = c.in_ok-time.time; owner = c.in_ok-owner.owner; probe = c.in_ok-probe.probe; first = c.in_ok-first.first; count = c.in_ok-first.count } in
    let (o, there, reads) = c.in_ok-owner.ensures.1 in
    let (p, fires, names) = c.in_ok-probe.ensures.1 in
    let at_o = seen_at owner_in c.read.new.self c.in_ok-owner.owner (c.split_at.result.0.now, o) there in
    let at_p = seen_at probe_in c.read-2.new.self c.in_ok-probe.probe (c.split_at-2.result.0.now, p) fires in
    record {
      owners = c.read.ensures.0;
      probes = c.read-2.ensures.0;
      args = c.read_arguments.ensures.0;
      inside = row_in (map owner_in c.read.new.self) (map probe_in c.read-2.new.self) c.read_arguments.new.all.items r _ _ at_o at_p c.in_ok-first.ensures.1.0;
      row = row_parts c.args.bytes.now c.in_ok-number.rest.now c.split_at.result.1.now c.in_ok-time.rest.now c.split_at-2.result.1.now c.in_ok-first.rest.now
          (map owner_in c.read.new.self) (map probe_in c.read-2.new.self) c.read_arguments.new.all.items r _ _ c.in_ok-number.ensures.begins
          at_o (owner_read _ _ _ _ (reads refl) c.split_at.ensures.by_index.0) c.in_ok-time.ensures.value at_p (probe_read _ _ _ _ (names refl) c.split_at-2.ensures.by_index.0) c.in_ok-first.ensures.1.1;
      rises = c.in_ok-number.ensures.rises;
    }
