use Rattle.d_types.specs.Clauses.{by_trees, fault_line}
use Rattle.d_types.proofs.Contributions.{run_is_few, script_runs_few}
use Rattle.d_types.proofs.laws.contributions_are_few.Goals as goal

pub returns-clause-run : goal.returns-clause-run
returns-clause-run c f index clause vars = run_is_few (by_trees f) (fault_line f.number index) clause.predicate clause.statements vars

pub returns-clause-firing : goal.returns-clause-firing
returns-clause-firing c m h = script_runs_few m h
