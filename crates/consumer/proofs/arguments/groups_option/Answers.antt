use Rattle.consumer.proofs.arguments.groups_option.Goals as goal

pub returns : goal.returns
returns c = c.with_numbers.ensures _ (c.with_default-groups.ensures _ c.option.ensures)
