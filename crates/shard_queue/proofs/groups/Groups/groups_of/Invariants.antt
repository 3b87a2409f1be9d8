use Rattle.std.proofs.Common.{◌≡◌, ◌<◌, ◌≤◌, All, map, take}
use Rattle.std.specs.Prelude.{IfSome, vec_capacity}
use Rattle.shard_queue.specs.Groups.{grouping}
use Rattle.shard_queue.proofs.groups.Groups.groups_of.Given as goal

abbrev pub invariant-loop-index : goal.invariant-loop-index
invariant-loop-index l = record {
  room : l.count ≤ vec_capacity l.groups;
  below : All (λ o. IfSome o (λ g. g < (grouping l.self).count)) l.groups.items;
  groups : l.groups.items ≡ map (grouping l.self).group (take l.index l.owners.0);
}
