use Rattle.d_types.proofs.Fitting.{typed_script_fits}
use Rattle.d_types.proofs.laws.six_registers.Goals as goal

pub returns : goal.returns
returns c m h = typed_script_fits m h
