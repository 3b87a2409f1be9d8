use Rattle.std.proofs.Common.{◌≡◌, ◌≤◌, length, refl, arith, []}
use Rattle.std.proofs.lemmas.Grind.{common_steps}
use Rattle.std.proofs.lemmas.List.{nil_from_length}
use Rattle.firing_reader.proofs.WaitingRows.{added_after}
use Rattle.firing_reader.proofs.waiting.add_waiting.Goals as goal

pub returns-then-is_empty : goal.returns-then-is_empty
returns-then-is_empty c =
    let none : c.args.waiting.now.bytes.items ≡ [] = nil_from_length _ (grind (arith, common_steps, c.is_empty.ensures, c.if-is_empty.true)) in
    rw none (refl, refl)

pub returns : goal.returns
returns c =
    let p = rw c.deref-2.ensures.value at c.in-Some.ensures in
    let some : 1 ≤ length c.args.waiting.now.bytes.items = grind (arith, common_steps, c.is_empty.ensures, c.if-is_empty.false) in
    added_after c.read_rows.result _ _ _ _ _ _ some p.read (rw c.keep_from.ensures at c.read_rows.ensures.read) c.read_rows.ensures.feed
