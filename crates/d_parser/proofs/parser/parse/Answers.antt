use Rattle.d_parser.proofs.Answering.{few_of, found_of}
use Rattle.d_parser.proofs.Numbers.{small_of}
use Rattle.d_parser.proofs.parser.parse.Goals as goal

pub returns-clause-few : goal.returns-clause-few
returns-clause-few c = few_of c.script.result c.args.tokens.now 65536 c.requires.few c.script.ensures

pub returns-clause-small : goal.returns-clause-small
returns-clause-small c = small_of c.script.result c.args.tokens.now c.requires.small (found_of c.script.result c.args.tokens.now c.script.ensures)
