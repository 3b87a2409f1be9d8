use Rattle.consumer.proofs.arguments.workers_option.Goals as goal

pub returns : goal.returns
returns c = c.with_numbers.ensures _ (c.with_default-workers.ensures _ c.option.ensures)
