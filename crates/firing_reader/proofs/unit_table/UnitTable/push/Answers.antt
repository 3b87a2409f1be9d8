use Rattle.std.proofs.Common.{rules}
use Rattle.firings.specs.declared.units.Known.{Known}
use Rattle.firing_reader.proofs.Shared.{unit_push, units_push}
use Rattle.firing_reader.proofs.unit_table.UnitTable.push.Goals as goal

pub invariant_of-self-2 : goal.invariant_of-self-2
invariant_of-self-2 g c =
    let b = c.self.inside.bytes.items in
    let ks = c.self.inside.known.items in
    let k : Known g.row.E.Denot = record { hash = c.args.hash; begin = c.in_ok-begin.begin; count = c.in_ok-count.count; plain = c.args.plain; entry = c.args.entry } in
    rw (c.in_ok-add_bytes.ensures, c.push_reserved.ensures.items, c.make_room.ensures.same)
    (units_push g.E.Entry.is_in g.E.PlainEntry.reads b c.args.key.now ks k c.self.invariant (search rules) (search rules) c.requires.inside c.requires.reads)

pub returns : goal.returns
returns g c =
    let b = c.self.inside.bytes.items in
    let ks = c.self.inside.known.items in
    let k : Known g.row.E.Denot = record { hash = c.args.hash; begin = c.in_ok-begin.begin; count = c.in_ok-count.count; plain = c.args.plain; entry = c.args.entry } in (
      rw (c.in_ok-add_bytes.ensures, c.push_reserved.ensures.items, c.make_room.ensures.same)
          (unit_push g.E.Entry.is_in g.E.PlainEntry.reads b c.args.key.now ks k c.args.self.now c.self.invariant c.self.view_is (search rules) (search rules)),
      search rules,
    )
