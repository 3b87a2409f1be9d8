use Rattle.std.proofs.Common.{arith, refl, ap, sym, subst, ◌∙◌, ◌++◌, ◌∷◌, [], ◌+◌, ◌<◌, ◌≤◌, ◌≡◌}
use Rattle.std.proofs.Common.{Some, cond, map, length, get_or, vec_len}
use Rattle.std.specs.Prelude.{IfSome, slice_get}
use Rattle.std.proofs.lemmas.Option.{get_or_from_slice_get, slice_get_read}
use Rattle.std.proofs.lemmas.List.{get_or_default, length-map}
use Rattle.firings.specs.Firings.{thread_of}
use Rattle.shard_queue.specs.Threads.{thread_zero}
use Rattle.shard_queue.specs.Groupings.{Grouping, is_group}
use Rattle.shard_queue.specs.Groups.{grouping, indices}
use Rattle.shard_queue.proofs.Indices.{group_at, placed, placed_first, placed_last}
use Rattle.shard_queue.proofs.groups.Groups.fill.Goals as goal

pub loop-at-init : goal.loop-at-init
loop-at-init c =
    let a = c.in_ok-add.ensures in record {
      index = refl;
      stays = a.grouping;
      indices = λ g. placed_first (λ t. is_group g ((grouping c.args.self.now).group t)) (indices c.args.self.now g) (indices c.add.new.self g) (map thread_of c.args.firings.now ++ thread_zero ∷ []) (c.requires.empty g) (a.indices g);
    }

pub overflow_add-index : goal.overflow_add-index
overflow_add-index c = let p = c.loop-at.invariant.index in let few = c.requires.few in let lt = rw c.len-at-end.ensures at c.loop-at-test.true in omega arith

pub add-requires-in-loop-at : goal.add-requires-in-loop-at
add-requires-in-loop-at c =
    let made = c.in_ok-groups.groups in
    let o = c.index_of-owner.result in
    let size = made.ok.0 in
    let lt : o < length made.items = rw (c.in_ok-groups.ensures.groups, length-map c.owner_indices-owners.result.0 (grouping c.args.self.now).group) c.index_of-owner.ensures.within in
    let within : o < vec_len made = omega (arith, size, lt) in
    let there : slice_get made.items o ≡ Some c.index.result.now = slice_get_read made.items _ o c.index.result.now size within c.index.ensures in
    subst (λ (s : Grouping). IfSome c.index.result.now (λ g. g < s.count)) (sym c.loop-at.invariant.stays)
    (subst (λ x. IfSome x (λ g. g < (grouping c.args.self.now).count)) (get_or_from_slice_get made.items o c.index.result.now c.index.result.now there)
    (c.in_ok-groups.ensures.below o c.index.result.now lt))

pub loop-at-preserved : goal.loop-at-preserved
loop-at-preserved c =
    let i = c.loop-at.invariant in
    let made = c.in_ok-groups.groups in
    let o = c.index_of-owner.result in
    let size = made.ok.0 in
    let a = c.in_ok-add-2.ensures in
    let ts = map thread_of c.args.firings.now in
    let t = get_or ts c.loop-at.at thread_zero in
    let group = (grouping c.args.self.now).group in
    let owners = c.owner_indices-owners.result in
    let in_made : o < length made.items = rw (c.in_ok-groups.ensures.groups, length-map owners.0 group) c.index_of-owner.ensures.within in
    let there : slice_get made.items o ≡ Some c.index.result.now = slice_get_read made.items _ o c.index.result.now size (omega (arith, size, in_made)) c.index.ensures in
    let found : get_or (map group owners.0) o c.index.result.now ≡ c.index.result.now = rw c.in_ok-groups.ensures.groups at (get_or_from_slice_get made.items o c.index.result.now c.index.result.now there) in
    let lt : c.loop-at.at < length ts = rw (length-map c.args.firings.now thread_of) (rw c.len-at-end.ensures at c.loop-at-test.true) in
    let same : c.index.result.now ≡ group t = sym found ∙ group_at group owners.0 owners.1 ts c.loop-at.at o c.index.result.now c.owner_indices-owners.ensures lt c.index_of-owner.ensures.index in
    record {
      index = ap (λ k. k + 1) i.index;
      stays = a.grouping ∙ i.stays;
      indices = λ g. placed (λ t. is_group g (group t)) (indices c.loop-at.self g) (indices c.add-in-loop-at.new.self g) c.loop-at.index ts c.loop-at.at t _
          lt (get_or_default ts c.loop-at.at t thread_zero lt) (a.indices g ∙ ap (λ x. cond (is_group g x) (indices c.loop-at.self g ++ c.loop-at.index ∷ []) (indices c.loop-at.self g)) same) (i.indices g);
    }

pub returns-clause-grouping : goal.returns-clause-grouping
returns-clause-grouping c = c.in_ok-add-3.ensures.grouping ∙ c.loop-at.invariant.stays

pub returns-clause-indices : goal.returns-clause-indices
returns-clause-indices c =
    let i = c.loop-at.invariant in
    let ts = map thread_of c.args.firings.now in
    let past : length ts ≤ c.loop-at.at = rw (length-map c.args.firings.now thread_of) (rw c.len-at-end.ensures at c.loop-at-test.false) in
    λ g. placed_last (λ t. is_group g ((grouping c.args.self.now).group t)) (indices c.loop-at.self g) _ c.loop-at.index ts c.loop-at.at _ past
    (c.in_ok-add-3.ensures.indices g ∙ ap (λ (s : Grouping). cond (is_group g (s.group thread_zero)) (indices c.loop-at.self g ++ c.loop-at.index ∷ []) (indices c.loop-at.self g)) i.stays) (i.indices g)
