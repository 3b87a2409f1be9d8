use Rattle.dif_machine.specs.Vocabulary.{NumberKind}
use Rattle.dif_machine.proofs.Acting.{fits, pushes_part}
use Rattle.dif_machine.proofs.Executing.{goes}
use Rattle.dif_machine.proofs.stepping.tuple.pushtv.Goals as goal

pub push-requires-clause-room : goal.push-requires-clause-room
push-requires-clause-room c = let can = c.requires in fits c.args.machine.now.frame can.index can.index can.vars can.vars can.object can.object can.firing can.firing NumberKind c.args.a _ can.runs c.number-word.ensures

pub returns : goal.returns
returns c = λ o f. goes _ o f _ _ _ c.push.ensures (λ index vars.
    let can = c.requires in
    pushes_part c.args.machine.now.frame can.index index can.vars vars can.object o can.firing f NumberKind c.args.a _ can.runs c.number-word.ensures)
