use Rattle.consumer.proofs.Answers.{one_answer}
use Rattle.consumer.proofs.laws.one_answer.Goals as goal

pub returns : goal.returns
returns g c = λ each. one_answer g.L.Layout.shows each.one
