use Rattle.std.proofs.Common.{◌≡◌, ◌++◌}
use Rattle.replay_core.specs.Steps.Indices.{merge}
use Rattle.replay_core.proofs.selection.indices.merge.Given as goal

abbrev pub invariant-loop-index : goal.invariant-loop-index
invariant-loop-index l =
    l.all.items ++ merge l.index-iterator.rest.items l.rest ≡ merge l.fn.indices.items l.fn.more.items
