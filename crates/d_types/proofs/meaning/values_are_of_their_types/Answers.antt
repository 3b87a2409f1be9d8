use Rattle.std.proofs.Common.{subst}
use Rattle.d_types.specs.Held.{IsWord}
use Rattle.d_types.proofs.Holding.{eval_is}
use Rattle.d_types.proofs.ValueTypes.{narrow_is, narrow_leaves}
use Rattle.d_types.proofs.meaning.values_are_of_their_types.Goals as goal

pub returns-clause-values : goal.returns-clause-values
returns-clause-values c slots f e vars fit is good = eval_is slots f fit e vars is good

pub returns-clause-words : goal.returns-clause-words
returns-clause-words c t word = (narrow_leaves t word, λ e. subst (IsWord t) e (narrow_is t word))
