use Rattle.dif_validate.proofs.Verdicts.{one_fault, valid_without_fault}
use Rattle.dif_validate.proofs.laws.one_verdict.Goals as goal

pub returns-clause-valid : goal.returns-clause-valid
returns-clause-valid c = valid_without_fault

pub returns-clause-fault : goal.returns-clause-fault
returns-clause-fault c = one_fault
