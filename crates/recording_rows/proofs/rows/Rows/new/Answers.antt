use Rattle.std.proofs.Common.{◌≡◌, subst, sym}
use Rattle.recording_rows.specs.Steps.Blocks.{IsHeading}
use Rattle.recording_rows.specs.Steps.Rows.{line_of}
use Rattle.recording_rows.proofs.Lines.{columns, heads}
use Rattle.recording_rows.proofs.More.{none_yet}
use Rattle.recording_rows.proofs.rows.Rows.new.Goals as goal

pub returns : goal.returns
unfolding columns
returns c =
    let bytes = c.in_ok-from_slice.field-0.items in
    let is : bytes ≡ line_of columns = c.in_ok-from_slice.ensures.items in
    none_yet bytes (subst IsHeading (sym is) heads)
