use Rattle.d_lexer.proofs.Small.{tokens_small}
use Rattle.d_lexer.proofs.laws.numbers_are_small.Goals as goal

pub returns : goal.returns
returns c bytes ts a = tokens_small bytes ts a
