use Rattle.std.proofs.Common.{◌≡◌, filter, map, take}
use Rattle.replay_core.specs.Steps.Described.{is_found}
use Rattle.replay_core.proofs.selection.table.DescriptionTable.clauses_of_kind.Given as goal

abbrev pub invariant-loop-described : goal.invariant-loop-described
invariant-loop-described l =
    l.found.items ≡ map (λ x. x.1.clause) (filter (is_found l.kind l.probe) (take l.described-index l.described-items))
