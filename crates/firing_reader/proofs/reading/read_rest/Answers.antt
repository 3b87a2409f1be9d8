use Rattle.std.proofs.Common.{◌∙◌}
use Rattle.firing_reader.proofs.PlainRows.{goes_all, left_end}
use Rattle.firing_reader.proofs.reading.read_rest.Goals as goal

pub returns : goal.returns
returns c =
    let left = c.take_plain-rest.ensures.left in
    let same = c.records_of-records.ensures.all ∙ left_end _ (left.end, left.after, left.is_rest, left.ends) in
    rw (goes_all _ _ _ _ c.take_plain-rest.ensures.read) (rw same at c.read_by_csv.ensures)
