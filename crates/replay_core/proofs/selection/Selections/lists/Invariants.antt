use Rattle.std.proofs.Common.{◌≡◌, length, map, take, slice_get}
use Rattle.replay_core.specs.Selecting.{lent}
use Rattle.replay_core.proofs.selection.Selections.lists.Given as goal

abbrev pub invariant-loop-at : goal.invariant-loop-at
invariant-loop-at l = record {
  size : length l.lists ≡ 16;
  lists : map lent (take l.at l.lists) ≡ map (slice_get l.self) (take l.at l.fn.indices);
}
