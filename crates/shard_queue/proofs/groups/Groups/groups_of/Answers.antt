use Rattle.std.specs.Prelude.{IfSome}
use Rattle.std.proofs.Common.{rules, ◌≡◌, ◌<◌, ◌≤◌, ◌∙◌, ◌∷◌, [], ap, map, length, take}
use Rattle.std.proofs.lemmas.Int.{to_z-of_z}
use Rattle.std.proofs.lemmas.List.{map-append, take_all}
use Rattle.std.proofs.lemmas.Option.{get_or_from_slice_get, slice_get_within}
use mir.Val.{SFits}
use mir.Syntax.{w32}
use Rattle.shard_queue.specs.Groups.{grouping}
use Rattle.shard_queue.proofs.Lists.{all_push, take_next}
use Rattle.shard_queue.proofs.groups.Groups.groups_of.Goals as goal

pub loop-index-preserved : goal.loop-index-preserved
loop-index-preserved c =
    let t = c.thread.result in
    let fits : SFits w32 t = search rules in
    let group = (grouping c.args.self.now).group in
    let ts = c.args.owners.now.0 in
    let i = c.loop-index.index in
    let lt : i < length ts = slice_get_within ts i t c.thread.ensures in
    let own : c.group_of.result ≡ group t = simp to_z-of_z at c.group_of.ensures.group in
    let next = take_next ts i t lt (get_or_from_slice_get ts i t t c.thread.ensures) in
    record {
      room = search rules;
      below = all_push (λ o. IfSome o (λ g. g < (grouping c.args.self.now).count)) c.loop-index.groups.items _ c.group_of.result c.loop-index.invariant.below c.group_of.ensures.below (search rules);
      groups = rw (next, map-append group (take i ts) (t ∷ []), ← own, ← c.loop-index.invariant.groups) (search rules);
    }

pub returns-clause-groups : goal.returns-clause-groups
returns-clause-groups c =
    let ts = c.args.owners.now.0 in
    let i = c.loop-index.index in
    let past : length ts ≤ i = rw c.owner_count-count.ensures at c.loop-index-test.false in
    c.loop-index.invariant.groups ∙ ap (map (grouping c.args.self.now).group) (take_all i ts past)
