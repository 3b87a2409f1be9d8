use Rattle.clap.specs.Words.{found_of}
use Rattle.consumer.proofs.Options.{engine_read}
use Rattle.consumer.proofs.arguments.engine_named.Goals as goal

pub returns-in_err-name : goal.returns-in_err-name
returns-in_err-name c = engine_read (found_of c.args.matches.now) _ _ c.in_err-name.ensures c.from_residual.ensures

pub returns : goal.returns
returns c = engine_read (found_of c.args.matches.now) _ _ c.in_ok-name.ensures c.engine_called.ensures
