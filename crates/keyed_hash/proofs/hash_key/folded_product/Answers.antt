use Rattle.std.proofs.Common.{refl}
use Rattle.std.specs.Hash.FoldHasher.{folded_multiply}
use Rattle.keyed_hash.proofs.hash_key.folded_product.Goals as goal

pub returns : goal.returns
unfolding folded_multiply
returns c = refl
