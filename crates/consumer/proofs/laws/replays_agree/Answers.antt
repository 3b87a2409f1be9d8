use Rattle.consumer.proofs.Agreeing.{apart, refusals_agree, shown_agree}
use Rattle.consumer.proofs.laws.replays_agree.Goals as goal

pub returns-clause-shown : goal.returns-clause-shown
returns-clause-shown g c = shown_agree g.L.Layout.shows

pub returns-clause-refused : goal.returns-clause-refused
returns-clause-refused g c = refusals_agree g.L.Layout.shows

pub returns-clause-apart : goal.returns-clause-apart
returns-clause-apart g c = apart g.L.Layout.shows
