use Rattle.d_parser.proofs.CompleteScripts.{one_script}
use Rattle.d_parser.proofs.laws.one_script.Goals as goal

pub returns : goal.returns
returns c ts k l h g = one_script ts k l h g
