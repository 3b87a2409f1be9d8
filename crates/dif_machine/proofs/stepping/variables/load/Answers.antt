use Rattle.dif_machine.specs.Steps.Instructions.{load_of}
use Rattle.dif_machine.proofs.Acting.{loads}
use Rattle.dif_machine.proofs.Executing.{loaded, refused, unloaded}
use Rattle.dif_machine.proofs.stepping.variables.load.Goals as goal

pub load-requires : goal.load-requires
load-requires g c = (g.met.M.Memory.stays c.args.memory.now c.args.machine.now.lasting c.args.machine.now.texts c.requires.running.over c.requires.running.among).0

pub returns-in_err-word : goal.returns-in_err-word
returns-in_err-word g c = λ o f. unloaded g.M.Memory.holds g.M.Memory.is_over g.M.Memory.beside o f c.args.memory.now c.args.machine.now g.met.M.Memory.stays c.requires.running (load_of c.args.variable c.args.d) _ _ _ c.load.ensures.grows c.load.ensures.loads.same (refused c.from_residual.result c.from_residual.ensures.1)

pub returns : goal.returns
returns g c = λ o f.
    let k = c.load.ensures.loads in
    loaded g.M.Memory.holds g.M.Memory.is_over g.M.Memory.beside o f c.args.memory.now c.args.machine.now g.met.M.Memory.stays c.requires.running (load_of c.args.variable c.args.d) c.args.d _ _ _ _ _ c.load.ensures.grows k.same c.in_ok-word.ensures.loads.word c.put.ensures (λ index.
    let can = c.requires.can in
    loads c.args.machine.now.frame can.index index can.vars _ can.object o can.firing f c.args.variable c.args.d can.runs)
