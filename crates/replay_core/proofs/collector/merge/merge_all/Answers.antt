use Rattle.std.proofs.Common.{◌≡◌, ◌∷◌, rules, subst}
use Rattle.std.specs.Vec.Iter.{into_iter_items}
use Rattle.replay_core.specs.Tables.{AllHave, Refine}
use Rattle.replay_core.proofs.Merging.{neighbours, refine_after, serve_one}
use Rattle.replay_core.proofs.collector.merge.merge_all.Goals as goal

pub merge-requires-clause-functions : goal.merge-requires-clause-functions
merge-requires-clause-functions c =
    let rest = into_iter_items c.next-in-loop-table.new.self in
    let front : into_iter_items c.loop-table.table-iterator ≡ c.in-Some-table.table ∷ rest = search rules in
    let have = c.loop-table.invariant.functions c.requires.can.0.0 c.requires.can.0.1 in
    neighbours c.requires.can.0.0 c.loop-table.all c.in-Some-table.table rest (subst (λ ts. AllHave c.requires.can.0.0 (c.loop-table.all ∷ ts)) front have)

pub loop-table-preserved : goal.loop-table-preserved
loop-table-preserved c =
    let rest = into_iter_items c.next-in-loop-table.new.self in
    let front : into_iter_items c.loop-table.table-iterator ≡ c.in-Some-table.table ∷ rest = search rules in
    let made = c.in_ok-merge.ensures in
    refine_after _ _ _ (serve_one c.loop-table.all c.in-Some-table.table c.merge.new.self rest made.functions made.ok made.held)
    (subst (λ ts. Refine (c.loop-table.all ∷ ts) c.args.tables.items) front c.loop-table.invariant)
