use Rattle.std.proofs.Common.{◌≡◌, List, length, map, take}
use Rattle.replay_core.specs.Vocabulary.{Description, AreIndices, Extends}
use Rattle.replay_core.specs.Steps.Described.{IsTableOf}
use Rattle.replay_core.specs.Indices.{indices_for}
use Rattle.replay_core.proofs.selection.Found.new.Given as goal

abbrev pub invariant-loop-probe : goal.invariant-loop-probe
invariant-loop-probe l = record {
  end : l.probe-end ≡ length l.firings.probes;
  grows : Extends l.initial.lists l.lists;
  indices : (ds : List (List Description)) → IsTableOf l.table ds → AreIndices l.lists l.by_probe.items (take l.probe (map (λ p. indices_for p 0 ds) l.firings.probes));
}
