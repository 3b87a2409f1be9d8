use Rattle.std.proofs.Common.{◌≡◌, false, Some, MatchOption, slice_get, sym, subst}
use Rattle.std.proofs.lemmas.Int.{to_z-of_z}
use Rattle.shard_queue.specs.Threads.{has}
use Rattle.shard_queue.proofs.Sought.{searched}
use Rattle.shard_queue.proofs.threads.index_of.Goals as goal

pub returns : goal.returns
returns c =
    let thread = c.ranges.thread in
    let found = simp to_z-of_z at c.binary_search.ensures.position in
    subst (λ o. MatchOption o (has c.args.threads.now c.args.thread ≡ false) (λ i. slice_get c.args.threads.now i ≡ Some c.args.thread)) (sym c.ok.ensures.value)
    (searched c.args.threads.now c.args.thread c.binary_search.result c.requires found c.binary_search.ensures.bound)
