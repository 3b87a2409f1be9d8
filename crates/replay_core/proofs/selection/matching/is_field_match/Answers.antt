use Rattle.std.proofs.Common.{rules}
use Rattle.replay_core.proofs.PatternTests.{field_answer}
use Rattle.replay_core.proofs.selection.matching.is_field_match.Goals as goal

pub returns-else-is_empty : goal.returns-else-is_empty
returns-else-is_empty c = field_answer _ _ _ (search rules) c.is_match.ensures
