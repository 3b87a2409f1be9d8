use Rattle.std.proofs.Common.{◌≡◌, refl}
use Rattle.replay_core.proofs.Rounds.{least_is}
use Rattle.replay_core.proofs.laws.least_is_the_first_exit.Goals as goal

pub returns : goal.returns
returns c = λ m groups trace round is placed given. least_is (λ n. n ≡ m) groups trace is placed round given m refl
