use Rattle.std.proofs.Common.{◌+◌, ◌++◌, ap, append_assoc, arith, subst, sym, ◌∙◌, ℕ, List}
use Rattle.recording_rows.specs.Steps.Blocks.{IsWritten}
use Rattle.recording_rows.proofs.Added.{row_added}
use Rattle.recording_rows.proofs.rows.Rows.put.Goals as goal

pub returns : goal.returns
returns c = λ before ends.
    let was = c.args.self.now.block.items in
    let count = c.args.self.now.count in
    subst (λ (l : List ℕ). IsWritten l (count + 1)) (append_assoc before was _ ∙ sym (ap (λ (l : List ℕ). before ++ l) c.in_ok-put_row.ensures.bytes))
    (row_added (before ++ was) count _ ends (omega arith) c.in_ok-put_row.ensures.types)
