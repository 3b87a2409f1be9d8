use Rattle.std.proofs.Common.{◌≡◌, ◌-◌, ◌∷◌, ap, arith, drop, length, length-drop, take_all}
use Rattle.firing_reader.proofs.WaitingRows.{keeps_front, row_left}
use Rattle.firing_reader.proofs.blocks.Reader.take_out_row.Goals as goal

pub invariant_of-self : goal.invariant_of-self
invariant_of-self c =
    let at = c.after_last_end-at.result in
    let some = rw c.deref.ensures.value at c.after_last_end-at.ensures.some in
    let p = c.self.inside.progress in
    rw c.truncate.ensures.items (keeps_front c.self.inside.stage p.firings p.waiting.pieces.items p.waiting.bytes.items p.left.items at some c.self.invariant)

pub returns-clause-row : goal.returns-clause-row
returns-clause-row c =
    let at = c.after_last_end-at.result in
    let some = rw c.deref.ensures.value at c.after_last_end-at.ensures.some in
    let p = c.self.inside.progress in
    let x = p.left.items in
    let row : c.extend_from_slice.new.self.items ≡ 10 ∷ drop at x = rw (c.in_ok-extend_from_slice.ensures.items, c.in_ok-push.ensures.items, c.clear.ensures.items, c.deref-2.ensures.value)
    (ap (λ row. 10 ∷ row) (take_all (length x - at) (drop at x) (omega (arith, length-drop at x)))) in
    rw (← c.self.view_is, c.truncate.ensures.items) (drop at x, row, λ rest. row_left c.self.inside.stage p.firings p.waiting.pieces.items p.waiting.bytes.items x at rest some c.self.invariant)
