use Rattle.dif_codegen.proofs.Ended.{run_of_value}
use Rattle.dif_codegen.proofs.laws.values_are_of_runs.Goals as goal

pub returns : goal.returns
returns c = λ o f vars valid. run_of_value f o vars valid
