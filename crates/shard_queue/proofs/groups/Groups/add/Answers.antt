use Rattle.std.proofs.Common.{arith, ap, sym, ◌∙◌, ◌≡◌, ◌++◌, ◌∷◌, [], map, set, get_or, cond}
use Rattle.std.proofs.lemmas.List.{map-set, length-map}
use Rattle.shard_queue.specs.Groupings.{is_group}
use Rattle.shard_queue.specs.Groups.{indices}
use Rattle.shard_queue.proofs.Indices.{gained, mapped_at}
use Rattle.shard_queue.proofs.groups.Groups.add.Goals as goal

pub returns-in_ok-push-clause-indices : goal.returns-in_ok-push-clause-indices
returns-in_ok-push-clause-indices c =
    let lists = c.args.self.now.indices.items in
    let h = c.in-Some.group in
    let old = c.index_mut.result.now.items in
    let small = rw c.in-Some.is at c.requires in
    let sized = c.args.self.now.sized in
    let n = c.args.self.now.indices.ok.0 in
    let is : get_or (map (λ v. v.items) lists) h [] ≡ old = mapped_at lists h c.index_mut.result.now (omega arith) (sym c.index_mut.ensures.value) in
    λ g. ap (λ l. get_or l g []) (map-set (λ v. v.items) lists h c.push.new.self ∙ ap (λ l. set (map (λ v. v.items) lists) h l) c.in_ok-push.ensures.items)
    ∙ gained (map (λ v. v.items) lists) h c.args.index old (let m = length-map lists (λ v. v.items) in omega arith) is g
    ∙ ap (λ o. cond (is_group g o) (indices c.args.self.now g ++ c.args.index ∷ []) (indices c.args.self.now g)) (sym c.in-Some.is)

pub returns-in_default-clause-indices : goal.returns-in_default-clause-indices
returns-in_default-clause-indices c = λ g. ap (λ o. cond (is_group g o) (indices c.args.self.now g ++ c.args.index ∷ []) (indices c.args.self.now g)) (sym c.in_default.is)
