use Rattle.std.proofs.Common.{◌≡◌, ◌∙◌, ◌++◌, ◌∷◌, ap, rules}
use Rattle.streams.proofs.Readings.{turn_with}
use Rattle.consumer.proofs.Taken.{rows_beside}
use Rattle.consumer.proofs.intake.Intake.take_rows.Goals as goal

pub returns : goal.returns
returns g c =
    let (row, is_row, back) = c.in_ok-take_out_row.ensures.row in
    let turn = rw c.in_ok-ended.was at c.read_beside-given.ensures.turn in
    let is_block : c.read_beside-given.new.block.items ≡ 10 ∷ (row ++ turn.bytes) = turn.taken ∙ ap (λ block. block ++ turn.bytes) is_row in
    turn_with turn (rows_beside _ _ _ _ row turn.bytes back (search rules) (λ rest. c.in_ok-take_block.ensures.taken (row ++ turn.bytes) rest is_block))
