use Rattle.std.proofs.Common.{rules}
use Rattle.consumer.proofs.Dividing.{divided_here, passed_line, undivided}
use Rattle.consumer.proofs.bundle.first_lines.Goals as goal

pub returns-then-is_divider : goal.returns-then-is_divider
returns-then-is_divider c = divided_here _ _ _ _ _ c.in-Some.ensures.1 (search rules) c.loop-line.invariant

pub loop-line-preserved : goal.loop-line-preserved
loop-line-preserved c = passed_line _ _ _ _ _ c.in-Some.ensures.1 c.in-Some.ensures.0 (search rules) c.loop-line.invariant

pub returns : goal.returns
returns c = undivided _ _ _ (search rules) c.loop-line.invariant
