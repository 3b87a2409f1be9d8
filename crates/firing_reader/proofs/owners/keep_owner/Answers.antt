use Rattle.std.proofs.Common.{rules, ◌≡◌, refl, w32}
use Rattle.std.proofs.lemmas.Int.{to_z-of_z}
use Rattle.firings.specs.declared.unit.OwnerEntry.{OwnerEntry}
use Rattle.firing_reader.specs.Steps.Stored.{owner_of}
use Rattle.firings.specs.Units.{owner_in}
use Rattle.firing_reader.proofs.Shared.{part_first, part_text, seen_kept}
use Rattle.firing_reader.proofs.owners.keep_owner.Goals as goal

pub intern-requires : goal.intern-requires
intern-requires c =
    let bytes = c.in_ok-bytes.bytes.items in
    let name = c.args.firing.now.execname in
    let (numbers, is) = c.in_ok-bytes.ensures in
    rw c.deref.ensures.value (part_text bytes 0 c.count.result name (part_first bytes name numbers c.count.result is c.count.ensures.value c.count.ensures.text))

pub returns : goal.returns
returns c =
    let bytes = c.in_ok-bytes.bytes.items in
    let name = c.args.firing.now.execname in
    let (numbers, is) = c.in_ok-bytes.ensures in
    let e : OwnerEntry = record { cpu = c.args.firing.now.cpu; thread = c.args.firing.now.thread; pid = c.args.firing.now.pid; from = 0; count = c.count.result } in
    let o = owner_of c.args.firing.now in
    let own = part_first bytes name numbers c.count.result is c.count.ensures.value c.count.ensures.text in
    let same : owner_in (bytes, e) ≡ o = rw own.is refl in
    let there = rw (c.deref.ensures.value, to_z-of_z w32 c.args.firing.now.cpu (search rules), to_z-of_z w32 c.args.firing.now.thread (search rules), to_z-of_z w32 c.args.firing.now.pid (search rules)) at c.intern.ensures.1 in
    (c.intern.ensures.0, seen_kept owner_in c.intern.new.self (bytes, e) o c.intern.result same there)
