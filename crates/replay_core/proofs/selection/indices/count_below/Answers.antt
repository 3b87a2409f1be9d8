use Rattle.std.proofs.Common.{arith, rules}
use Rattle.replay_core.proofs.IndicesMerged.{cut_at}
use Rattle.replay_core.proofs.selection.indices.count_below.Goals as goal

pub returns-else-indices-count : goal.returns-else-indices-count
returns-else-indices-count c =
    let i = c.loop-count.invariant in
    let cut = cut_at c.args.index c.args.indices.now c.loop-count.count i.low (λ lt. search rules) i.within in
    record { within = i.within; front = cut.0; behind = cut.1 }

pub returns-after-loop-count : goal.returns-after-loop-count
returns-after-loop-count c =
    let i = c.loop-count.invariant in
    let end = c.loop-count-test.false in
    let cut = cut_at c.args.index c.args.indices.now c.loop-count.count i.low (λ lt. absurd (omega arith)) i.within in
    record { within = i.within; front = cut.0; behind = cut.1 }
