use Rattle.d_types.proofs.ConsistentScripts.{script_is_consistent}
use Rattle.d_types.proofs.meaning.scripts_are_consistent.Goals as goal

pub returns : goal.returns
returns c m meant = script_is_consistent m meant
