use Rattle.std.proofs.Common.{◌≡◌, ◌≤◌, ◌+◌, ◌-◌, ◌++◌, ◌∷◌, [], List, length, map, ap, sym, ◌∙◌}
use Rattle.std.proofs.Common.{arith}
use Rattle.std.proofs.lemmas.Grind.{common_steps}
use Rattle.d_parser.specs.Tree.{item_of, ItemTree}
use Rattle.d_parser.specs.Steps.ReadingScripts.{items_reader}
use Rattle.d_parser.proofs.Rows.{items_push}
use Rattle.d_parser.proofs.Steps.{items_stop, items_goes}
use Rattle.d_parser.proofs.script.items.Goals as goal

pub returns-then-is_empty : goal.returns-then-is_empty
returns-then-is_empty c =
    let none : length c.loop.rest.now ≡ 0 = grind (arith, common_steps, c.is_empty.ensures, c.if-is_empty.true) in
    sym c.loop.invariant ∙ items_stop c.args.fuel c.args.fuel c.loop.counter (map item_of c.loop.all.items) c.loop.rest.now c.loop-test.true none

pub loop-preserved : goal.loop-preserved
loop-preserved c =
    let some : 1 ≤ length c.loop.rest.now = grind (arith, common_steps, c.is_empty.ensures, c.if-is_empty.false) in
    let pushed : map item_of c.push.new.self.items ≡ map item_of c.loop.all.items ++ item_of c.in_ok-next.next ∷ [] = ap (map item_of) c.in_ok-push.ensures.items ∙ items_push c.loop.all.items c.in_ok-next.next in
    ap (λ (all : List ItemTree). items_reader c.args.fuel (c.args.fuel - (c.loop.counter + 1)) all c.in_ok-next.later.now) pushed
    ∙ (sym (items_goes c.args.fuel c.args.fuel c.loop.counter (map item_of c.loop.all.items) c.loop.rest.now (item_of c.in_ok-next.next, c.in_ok-next.later.now) c.loop-test.true some c.in_ok-next.ensures) ∙ c.loop.invariant)
