use Rattle.std.proofs.Common.{◌≡◌, map, ap, ◌∙◌}
use Rattle.d_parser.specs.Tree.{script_of}
use Rattle.d_types.specs.declared.variables.Entry.{Entry}
use Rattle.d_types.specs.Typed.{aggs_of, meant_of, script_meant}
use Rattle.d_types.specs.Scripts.{IsMeant}
use Rattle.d_types.proofs.Checked.{walked_is_meant}
use Rattle.d_types.proofs.Whole.{script_is}
use Rattle.d_types.proofs.checking.typed_script.Goals as goal

pub from_parts-requires : goal.from_parts-requires
from_parts-requires c =
    let typed = rw (c.deref.ensures.value, c.new-table.ensures.items, c.new-aggs.ensures.items) at c.in-Ok.ensures in
    let slots : c.in_ok-slots-in-Ok.slots.items ≡ map (λ (e : Entry). e.holds) c.items.new.table.items = c.in_ok-slots-in-Ok.ensures ∙ ap (map (λ (e : Entry). e.holds)) c.deref-in-Ok.ensures.value in
    let meant : IsMeant (script_meant c.in-Ok.clauses.items c.items.new.aggs.items c.in_ok-slots-in-Ok.slots.items) = (
      script_of c.args.script,
      c.requires.few,
      c.requires.small,
      walked_is_meant (script_of c.args.script) _ (script_is (script_of c.args.script) (map meant_of c.in-Ok.clauses.items) c.items.new.table.items (aggs_of c.items.new.aggs.items) c.in_ok-slots-in-Ok.slots.items typed slots),
    ) in
    ∣ meant ∣₁

pub returns-in-Ok : goal.returns-in-Ok
returns-in-Ok c =
    let typed = rw (c.deref.ensures.value, c.new-table.ensures.items, c.new-aggs.ensures.items) at c.in-Ok.ensures in
    let slots : c.in_ok-slots-in-Ok.slots.items ≡ map (λ (e : Entry). e.holds) c.items.new.table.items = c.in_ok-slots-in-Ok.ensures ∙ ap (map (λ (e : Entry). e.holds)) c.deref-in-Ok.ensures.value in
    rw (c.from_parts.ensures.clauses, c.from_parts.ensures.aggregations, c.from_parts.ensures.slots)
    (script_is (script_of c.args.script) (map meant_of c.in-Ok.clauses.items) c.items.new.table.items (aggs_of c.items.new.aggs.items) c.in_ok-slots-in-Ok.slots.items typed slots)
