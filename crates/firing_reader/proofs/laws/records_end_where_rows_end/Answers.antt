use Rattle.firing_reader.proofs.PieceRows.{records_join}
use Rattle.firing_reader.proofs.laws.records_end_where_rows_end.Goals as goal

pub returns : goal.returns
returns c = λ rows after end fs is_end. records_join end is_end rows fs after
