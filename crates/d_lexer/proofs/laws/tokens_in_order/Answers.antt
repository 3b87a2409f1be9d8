use Rattle.d_lexer.proofs.Spans.{tokens_in_order}
use Rattle.d_lexer.proofs.laws.tokens_in_order.Goals as goal

pub returns : goal.returns
returns c bytes ts a = tokens_in_order bytes ts a
