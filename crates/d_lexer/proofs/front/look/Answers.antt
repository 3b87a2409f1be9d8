use Rattle.d_lexer.proofs.Lexing.{fits_of}
use Rattle.d_lexer.proofs.front.look.Goals as goal

pub returns-clause-fits : goal.returns-clause-fits
returns-clause-fits c = fits_of c.args.place c.args.pos c.args.b c.args.rest.now c.front_at.result c.front_at.ensures
