use Rattle.d_types.proofs.FiringValues.{locals_unassigned, own_unassigned}
use Rattle.d_types.proofs.HoldingRuns.{run_kept}
use Rattle.d_types.proofs.meaning.variables_keep_their_types.Goals as goal

pub returns-clause-run : goal.returns-clause-run
returns-clause-run c slots f index clause vars fit is good = run_kept slots f fit index clause vars is good

pub returns-clause-locals : goal.returns-clause-locals
returns-clause-locals c slots = locals_unassigned slots

pub returns-clause-own : goal.returns-clause-own
returns-clause-own c slots = own_unassigned slots
