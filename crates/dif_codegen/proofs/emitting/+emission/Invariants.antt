use Rattle.std.specs.Prelude.{◌≡◌, ◌≤◌, ◌+◌, drop}
use Rattle.d_types.specs.Needs.{need_of_keys}
use Rattle.d_types.specs.Typed.{typed_of, typeds_of}
use Rattle.dif_validate.specs.declared.object.Difo.{Difo}
use Rattle.dif_codegen.specs.Steps.Code.{keys_code}
use Rattle.dif_codegen.specs.Steps.Drafts.{Adds}
use Rattle.dif_codegen.proofs.Sizes.{size, sizes}
use Rattle.dif_codegen.proofs.emitting.+emission.Given as goal

abbrev pub decreases-emit : goal.decreases-emit
decreases-emit l = size (typed_of l.e.now)

abbrev pub decreases-emit_operands : goal.decreases-emit_operands
decreases-emit_operands l = 1 + size (typed_of l.a.now) + size (typed_of l.b.now)

abbrev pub decreases-emit_operation : goal.decreases-emit_operation
decreases-emit_operation l = 2 + size (typed_of l.a.now) + size (typed_of l.b.now)

abbrev pub decreases-emit_join : goal.decreases-emit_join
decreases-emit_join l = 2 + size (typed_of l.a.now) + size (typed_of l.b.now)

abbrev pub decreases-emit_logic : goal.decreases-emit_logic
decreases-emit_logic l = 2 + size (typed_of l.a.now) + size (typed_of l.b.now)

abbrev pub decreases-emit_and : goal.decreases-emit_and
decreases-emit_and l = 1 + size (typed_of l.a.now) + size (typed_of l.b.now)

abbrev pub decreases-emit_or : goal.decreases-emit_or
decreases-emit_or l = 1 + size (typed_of l.a.now) + size (typed_of l.b.now)

abbrev pub decreases-emit_choice : goal.decreases-emit_choice
decreases-emit_choice l = 1 + size (typed_of l.c.now) + size (typed_of l.a.now) + size (typed_of l.b.now)

abbrev pub decreases-emit_keys : goal.decreases-emit_keys
decreases-emit_keys l = sizes (typeds_of l.keys.now)

abbrev pub decreases-emit_read : goal.decreases-emit_read
decreases-emit_read l = 1 + sizes (typeds_of l.target.keys.now)

abbrev pub decreases-emit_assign : goal.decreases-emit_assign
decreases-emit_assign l = 1 + sizes (typeds_of l.target.keys.now) + size (typed_of l.a.now)

abbrev pub decreases-emit_update : goal.decreases-emit_update
decreases-emit_update l = 1 + sizes (typeds_of l.target.keys.now) + size (typed_of l.a.now)

abbrev pub decreases-emit_step : goal.decreases-emit_step
decreases-emit_step l = 1 + sizes (typeds_of l.target.keys.now)

abbrev pub invariant-emit_keys-loop-key : goal.invariant-emit_keys-loop-key
invariant-emit_keys-loop-key l =
    let rest = typeds_of (drop l.key-index l.keys) in
    (l.q ≡ l.r + l.key-index) × (l.r + need_of_keys l.key-index rest ≤ 7)
    × ((z : Difo) → Adds (keys_code rest l.q) l.draft z → Adds (keys_code (typeds_of l.keys) l.r) l.fn.draft z)
