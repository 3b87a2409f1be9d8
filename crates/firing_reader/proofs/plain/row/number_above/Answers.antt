use Rattle.std.proofs.Common.{rules}
use Rattle.firing_reader.proofs.RowParts.{begins_row}
use Rattle.firing_reader.proofs.plain.row.number_above.Goals as goal

pub returns-clause-begins : goal.returns-clause-begins
returns-clause-begins c =
    begins_row c.args.bytes.now c.in_ok-line.line.now c.in_ok-number.rest.now _ c.in_ok-line.ensures (c.starts_with_digit.ensures (search rules)) c.in_ok-number.ensures.value
