use Rattle.d_lexer.proofs.Spans.{fault_has_its_line}
use Rattle.d_lexer.proofs.laws.fault_has_its_line.Goals as goal

pub returns : goal.returns
returns c bytes fault a = fault_has_its_line bytes fault a
