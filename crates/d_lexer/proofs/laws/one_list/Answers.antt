use Rattle.d_lexer.proofs.Public.{one_list}
use Rattle.d_lexer.proofs.laws.one_list.Goals as goal

pub returns : goal.returns
returns c bytes ts us a b = one_list bytes ts us a b
