use Rattle.d_types.proofs.Dividing.{eval_gives}
use Rattle.d_types.proofs.meaning.only_divisions_fault.Goals as goal

pub returns : goal.returns
returns c f e vars = eval_gives f e vars
