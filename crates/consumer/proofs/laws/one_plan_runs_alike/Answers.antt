use Rattle.consumer.proofs.OnePlan.{memory_alone, ran_alike, refused_alike}
use Rattle.consumer.proofs.laws.one_plan_runs_alike.Goals as goal

pub returns-clause-ran : goal.returns-clause-ran
returns-clause-ran g c = ran_alike g.L.Layout.shows

pub returns-clause-refused : goal.returns-clause-refused
returns-clause-refused g c = λ each script trace plan. memory_alone g.L.Layout.shows script trace plan each

pub returns-clause-reason : goal.returns-clause-reason
returns-clause-reason g c = refused_alike g.L.Layout.shows
