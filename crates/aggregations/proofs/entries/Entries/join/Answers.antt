use Rattle.std.proofs.Common.{arith}
use Rattle.aggregations.proofs.IndexLemmas.{held_counted, takes_at}
use Rattle.aggregations.proofs.entries.Entries.join.Goals as goal

pub join-requires : goal.join-requires
join-requires c = omega (arith, held_counted _ _ _ _ _ c.self.view_is c.pair_mut-partial.ensures.value, c.requires.few)

pub returns : goal.returns
returns c = λ key at.
    let i = c.self.inside in
    let found = c.pair_mut-partial in
    takes_at i.map i.function c.args.self.now c.self.view_is found.ensures.unique c.args.index key found.result.0.now found.result.1.now c.join.new.self at found.ensures.value
    c.args.more.now c.join.result c.join.ensures.value c.join.ensures.count
