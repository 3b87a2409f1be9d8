use Rattle.d_types.proofs.Spelled.{one_spelling}
use Rattle.d_types.proofs.laws.one_format.Goals as goal

pub returns : goal.returns
returns c format ps qs g h = one_spelling format ps qs g h
