use Rattle.std.proofs.Common.{◌≡◌, ◌++◌, map, take}
use Rattle.replay_core.specs.Steps.Described.{HaveKinds, given_of}
use Rattle.replay_core.proofs.selection.table.DescriptionTable.add_all.Given as goal

abbrev pub invariant-loop-description : goal.invariant-loop-description
invariant-loop-description l = record {
  given : given_of l.self.described.items ≡ given_of l.fn.self.described.items ++ map (λ d. (l.clause, d)) (take l.description-index l.descriptions);
  kinds : HaveKinds l.fn.self → HaveKinds l.self;
}
