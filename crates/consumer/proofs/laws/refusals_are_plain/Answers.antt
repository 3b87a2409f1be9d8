use Rattle.consumer.proofs.PlainRefusals.{refusal_plain}
use Rattle.consumer.proofs.laws.refusals_are_plain.Goals as goal

pub returns : goal.returns
returns g c = refusal_plain g.L.Layout.shows
