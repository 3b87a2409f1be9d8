use Rattle.d_types.proofs.Sizes.{typed_script_is_small}
use Rattle.d_types.proofs.laws.sizes_kept.Goals as goal

pub returns : goal.returns
returns c m h = typed_script_is_small m h
