use Rattle.std.proofs.Common.{rules, arith}
use Rattle.replay_core.proofs.Stars.{passed_more, passed_none, found}
use Rattle.replay_core.proofs.selection.matching.behind_first.Goals as goal

pub returns-in_default : goal.returns-in_default
returns-in_default c = passed_none _ _ c.loop-rest.rest.now c.requires (search rules) (omega arith) c.loop-rest.invariant

pub loop-rest-preserved : goal.loop-rest-preserved
loop-rest-preserved c = passed_more _ _ c.loop-rest.rest.now c.requires (search rules) (omega arith) c.loop-rest.invariant

pub returns : goal.returns
returns c = found _ _ c.loop-rest.rest.now c.requires (search rules) c.loop-rest.invariant
