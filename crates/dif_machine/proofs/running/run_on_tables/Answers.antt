use Rattle.dif_machine.specs.Vocabulary.{variables}
use Rattle.dif_machine.specs.Machine.{value_of}
use Rattle.dif_machine.proofs.Arriving.{ends_refused}
use Rattle.dif_machine.proofs.running.run_on_tables.Goals as goal

pub returns-in_err-value : goal.returns-in_err-value
returns-in_err-value c =
    ends_refused c.args.valid.now c.args.firing.now (variables c.args.tables.now.locals c.args.tables.now.own) (variables c.run_on.new.memory.locals c.run_on.new.memory.own) (value_of c.run_on.new.machine.texts c.in_ok-word.word) c.from_residual-in_err-value.result
    c.from_residual-in_err-value.ensures.1 c.in_ok-word.ensures.ends
