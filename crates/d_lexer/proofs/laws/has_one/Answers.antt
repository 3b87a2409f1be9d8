use Rattle.d_lexer.proofs.Public.{has_one}
use Rattle.d_lexer.proofs.laws.has_one.Goals as goal

pub returns : goal.returns
returns c bytes = has_one bytes
