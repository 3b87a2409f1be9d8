use Rattle.firing_reader.proofs.PieceRows.{pieces}
use Rattle.firing_reader.proofs.laws.firings_of_pieces_are_those_of_the_whole.Goals as goal

pub returns : goal.returns
returns c = λ left right rest end fs gs. pieces end left fs right gs rest
