use Rattle.d_lexer.proofs.Lexing.{finish}
use Rattle.d_lexer.proofs.scanner.scan_tokens.Goals as goal

pub returns : goal.returns
returns c = finish c.loop-rest.tokens.items c.loop-rest.place c.loop-rest.pos c.loop-rest.rest.now _ c.in_default.len_below c.loop-rest.invariant.0
