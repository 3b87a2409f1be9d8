use Rattle.d_types.proofs.InPlace.{update_is_assignment, repeatable}
use Rattle.d_types.proofs.Stepping.{step_is_update, old_is_read}
use Rattle.d_types.proofs.meaning.changes_in_place_are_assignments.Goals as goal

pub returns-clause-update : goal.returns-clause-update
returns-clause-update c f t o x keys e vars holds again is = update_is_assignment f t o x keys e vars holds again is

pub returns-clause-repeatable : goal.returns-clause-repeatable
returns-clause-repeatable c f keys vars none = repeatable f keys vars none

pub returns-clause-new : goal.returns-clause-new
returns-clause-new c f t by x keys vars holds = step_is_update t f by x keys vars holds

pub returns-clause-old : goal.returns-clause-old
returns-clause-old c f by x keys vars = old_is_read f by x keys vars
