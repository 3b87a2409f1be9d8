use Rattle.d_lexer.proofs.Spans.{tokens_are_in_place}
use Rattle.d_lexer.proofs.laws.tokens_are_in_place.Goals as goal

pub returns : goal.returns
returns c bytes ts a = tokens_are_in_place bytes ts a
