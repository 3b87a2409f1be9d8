use Rattle.d_lexer.specs.Places.{after_byte}
use Rattle.d_lexer.proofs.Lexing.{jumped}
use Rattle.d_lexer.proofs.scanner.jump.Goals as goal

pub returns-clause-is : goal.returns-clause-is
returns-clause-is c q = jumped c.args.n q c.pass_all.result (after_byte c.args.pos c.args.b) c.pass.result c.args.rest.now c.requires.n c.pass_all.ensures.is c.pass.ensures.is
