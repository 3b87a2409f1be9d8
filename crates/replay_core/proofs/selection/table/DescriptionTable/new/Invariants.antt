use Rattle.std.proofs.Common.{◌≡◌, ◌++◌, map, drop}
use Rattle.replay_core.specs.Steps.Described.{HaveKinds, given_from, given_of}
use Rattle.replay_core.proofs.selection.table.DescriptionTable.new.Given as goal

abbrev pub invariant-loop-clause : goal.invariant-loop-clause
invariant-loop-clause l = record {
  given : given_of l.table.described.items ++ given_from l.clause (drop l.clause (map (λ d. d.now) l.descriptions)) ≡ given_from 0 (map (λ d. d.now) l.descriptions);
  kinds : HaveKinds l.table;
}
