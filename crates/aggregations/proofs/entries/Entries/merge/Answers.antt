use Rattle.std.proofs.Common.{◌≡◌, ◌∷◌, Some, subst, rules}
use Rattle.aggregations.specs.Table.{entry_at}
use Rattle.aggregations.specs.Steps.Entries.{Joins, Puts}
use Rattle.aggregations.proofs.MergeLemmas.{Merging, merging_more}
use Rattle.aggregations.proofs.entries.Entries.merge.Goals as goal

pub loop-key-preserved : goal.loop-key-preserved
loop-key-preserved c =
    let first = c.args.self.now in
    let all = c.args.other in
    let now = c.loop-key.self in
    let key = c.in-Some.key in
    let more = c.in-Some.more in
    let rest = c.next.new.self in
    let front : c.loop-key.key-iterator ≡ (key, more) ∷ rest = search rules in
    let m = subst (λ l. Merging first all l now) front c.loop-key.invariant in
    let puts = subst (λ g. Puts now c.take.new.self key (Joins g (entry_at key now) (Some more))) c.loop-key.invariant.function c.in_ok-take.ensures.ok in
    merging_more first all now c.take.new.self key more rest m c.take.ensures.function c.take.ensures.count puts
