use Rattle.consumer.proofs.arguments.engine_option.Goals as goal

pub returns : goal.returns
returns c = c.with_default.ensures _ c.option.ensures
