use Rattle.dif_machine.specs.Frames.{start}
use Rattle.dif_machine.proofs.Arriving.{ends_from, ends_there}
use Rattle.dif_machine.proofs.laws.runs_end_at_states.Goals as goal

pub returns : goal.returns
returns c = λ o f first end. (λ run. ends_there o f start first end run, λ there. ends_from o f start there.0 first there.1 end there.2 there.3)
