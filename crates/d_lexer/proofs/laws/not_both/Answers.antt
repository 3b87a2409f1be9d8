use Rattle.d_lexer.proofs.Public.{not_both}
use Rattle.d_lexer.proofs.laws.not_both.Goals as goal

pub returns : goal.returns
returns c bytes ts f a b = not_both bytes ts f a b
