use Rattle.std.proofs.Common.{rules}
use Rattle.firing_reader.proofs.WaitingRows.{pieces_cut}
use Rattle.firing_reader.proofs.waiting.+reading.Goals as goal

pub returns-clause-pieces : goal.returns-clause-pieces
returns-clause-pieces g t c =
    let cut = c.cut_near.ensures in
    pieces_cut c.args.bytes.now c.cut_near.result.0.now c.cut_near.result.1.now _ _ cut.cut cut.last (search rules) (search rules) (search rules)
