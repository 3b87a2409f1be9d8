use Rattle.std.proofs.Common.{sym, ◌∙◌}
use Rattle.d_types.proofs.Arguments.{one_argument, more_arguments}
use Rattle.d_types.proofs.calls.only.Goals as goal

pub returns : goal.returns
returns c = sym (one_argument _ c.pop.new.self c.in-Some.x c.in-Some.ensures.items (sym c.is_empty.ensures ∙ c.if-not-is_empty.false))

pub returns-then-not-is_empty : goal.returns-then-not-is_empty
returns-then-not-is_empty c = sym (more_arguments _ c.pop.new.self c.in-Some.x c.in-Some.ensures.items (sym c.is_empty.ensures ∙ c.if-not-is_empty.true))
