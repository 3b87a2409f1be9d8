use Rattle.dif_machine.specs.Machine.{word_result}
use Rattle.dif_codegen.proofs.Ended.{run_gives}
use Rattle.dif_codegen.proofs.program.TypedObject.run_on.Goals as goal

pub returns-clause-meant : goal.returns-clause-meant
returns-clause-meant g c =
    run_gives c.args.firing.now c.args.self.now.object (g.M.Memory.holds c.args.memory.now c.args.machine.now.texts) (word_result c.run_on.new.machine.texts c.run_on.result) (g.M.Memory.holds c.run_on.new.memory c.run_on.new.machine.texts)
    c.difo.ensures.valid c.run_on.ensures.ends
