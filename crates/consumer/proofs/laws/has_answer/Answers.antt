use Rattle.consumer.proofs.HasAnswer.{has_answer}
use Rattle.consumer.proofs.laws.has_answer.Goals as goal

pub returns : goal.returns
returns g c = has_answer g.L.Layout.shows
