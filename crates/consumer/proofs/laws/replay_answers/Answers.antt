use Rattle.consumer.proofs.Agreeing.{refusal_answers, shown_answers}
use Rattle.consumer.proofs.laws.replay_answers.Goals as goal

pub returns-clause-shown : goal.returns-clause-shown
returns-clause-shown g c = shown_answers g.L.Layout.shows

pub returns-clause-refused : goal.returns-clause-refused
returns-clause-refused g c = refusal_answers g.L.Layout.shows
