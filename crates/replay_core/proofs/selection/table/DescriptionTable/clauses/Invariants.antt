use Rattle.std.proofs.Common.{◌≡◌, List, filter, map}
use Rattle.replay_core.specs.Vocabulary.{Description}
use Rattle.replay_core.specs.Steps.Described.{IsTableOf}
use Rattle.replay_core.proofs.DescribedLemmas.{so_far}
use Rattle.replay_core.proofs.selection.table.DescriptionTable.clauses.Given as goal

abbrev pub invariant-loop-kind : goal.invariant-loop-kind
invariant-loop-kind l = (ds : List (List Description)) (t : IsTableOf l.self ds)
    → l.clauses.items ≡ map (λ x. x.1.clause) (filter (so_far l.kind l.probe) t.all)
