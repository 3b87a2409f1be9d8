use Rattle.d_lexer.proofs.Public.{one_fault}
use Rattle.d_lexer.proofs.laws.one_fault.Goals as goal

pub returns : goal.returns
returns c bytes f g a b = one_fault bytes f g a b
