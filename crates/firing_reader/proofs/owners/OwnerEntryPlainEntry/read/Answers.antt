use Rattle.std.proofs.Common.{rules, ◌≡◌, ◌∙◌, [], true, sym, w32}
use Rattle.std.proofs.lemmas.Bool.{eqb-true}
use Rattle.std.proofs.lemmas.Int.{to_z-of_z}
use Rattle.std.proofs.lemmas.List.{nil_from_length}
use Rattle.firings.specs.declared.unit.OwnerEntry.{OwnerEntry}
use Rattle.firing_reader.proofs.Shared.{owner_parsed}
use Rattle.firing_reader.proofs.owners.OwnerEntryPlainEntry.read.Goals as goal

pub returns : goal.returns
returns c =
    let (x2, f2, s2) = c.in_ok-cpu.ensures in
    let (x3, f3, s3) = c.in_ok-thread.ensures in
    let (x4, f4, s4) = c.in_ok-pid.ensures in
    let e : OwnerEntry = record { cpu = c.in_ok-cpu.cpu; thread = c.in_ok-thread.thread; pid = c.in_ok-pid.pid; from = c.saturating_sub-from.result; count = c.count.result } in
    let empty : c.is_empty.result ≡ true = search rules in
    let none : c.in_ok-execname.rest.now ≡ [] = nil_from_length _ (eqb-true _ _ (sym c.is_empty.ensures ∙ empty)) in
    let (inside, reads) = owner_parsed c.args.key.now c.in_ok-cpu.rest.now c.in_ok-thread.rest.now c.in_ok-pid.rest.now c.in_ok-execname.rest.now e c.in_ok-execname.execname (x2, f2, search (rules, s2)) (x3, f3, search (rules, s3)) (x4, f4, search (rules, s4)) c.in_ok-execname.ensures
    (search rules) c.count.ensures.value none in
    record { inside = inside; reads = rw (to_z-of_z w32 c.in_ok-cpu.cpu (search rules), to_z-of_z w32 c.in_ok-thread.thread (search rules), to_z-of_z w32 c.in_ok-pid.pid (search rules)) reads }
