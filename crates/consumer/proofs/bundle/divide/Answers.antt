use Rattle.std.proofs.Common.{rules}
use Rattle.consumer.proofs.Dividing.{divided_whole, last_divides, none_divides}
use Rattle.consumer.proofs.bundle.divide.Goals as goal

pub returns-in-Some : goal.returns-in-Some
returns-in-Some c = divided_whole c.args.bundle.now _ _ (rw c.in-Some.is at c.first_lines-passed.ensures)

pub returns-then-is_divider : goal.returns-then-is_divider
returns-then-is_divider c =
    last_divides c.args.bundle.now c.first_lines-passed.result.0 c.split_at.result.0.now c.split_at.result.1.now (search rules) (search rules) (rw c.in-None.is at c.first_lines-passed.ensures) (search rules)

pub returns-else-is_divider : goal.returns-else-is_divider
returns-else-is_divider c = none_divides c.args.bundle.now c.first_lines-passed.result.0 c.split_at.result.1.now (search rules) (rw c.in-None.is at c.first_lines-passed.ensures) (search rules)
