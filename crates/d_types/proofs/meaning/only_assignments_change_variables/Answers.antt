use Rattle.d_types.proofs.Keeping.{eval_keeps}
use Rattle.d_types.proofs.meaning.only_assignments_change_variables.Goals as goal

pub returns : goal.returns
returns c f e vars = eval_keeps f e vars
