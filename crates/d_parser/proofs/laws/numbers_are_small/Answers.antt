use Rattle.d_parser.proofs.Numbers.{script_small}
use Rattle.d_parser.proofs.laws.numbers_are_small.Goals as goal

pub returns : goal.returns
returns c ts items small is = script_small items ts small is
