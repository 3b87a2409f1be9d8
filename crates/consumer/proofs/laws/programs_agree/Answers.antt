use Rattle.consumer.proofs.Programs.{programs_agree}
use Rattle.consumer.proofs.laws.programs_agree.Goals as goal

pub returns : goal.returns
returns g c = programs_agree g.L.Layout.shows c.args.given.now
