use Rattle.std.proofs.Common.{sym, ap, subst, arith, ◌∙◌, ◌≡◌, ◌≤◌, ◌+◌, drop, max}
use Rattle.std.proofs.lemmas.Result.{on_ok_weaker}
use Rattle.d_types.specs.Needs.{need, need_of_keys}
use Rattle.d_types.specs.Typed.{typed_of, typeds_of}
use Rattle.d_types.proofs.Tables.{front}
use Rattle.d_types.proofs.Nodes.{read_is, assign_is, update_is, step_is}
use Rattle.dif_codegen.specs.Steps.Code.{differing, keys_code}
use Rattle.dif_codegen.specs.Steps.Drafts.{Adds}
use Rattle.d_values.specs.declared.int_type.DType.TheVariants.{Text}
use Rattle.dif_codegen.proofs.Adding.{both_adds, choice_adds, emitted_all, operands_on}
use Rattle.dif_codegen.proofs.Sizes.{calls}
use Rattle.dif_codegen.proofs.emitting.+emission.Goals as goal

pub emit-returns-in-Read : goal.emit-returns-in-Read
emit-returns-in-Read t c = rw (read_is _ _ _ _ c.in-Read.is c.deref.ensures.value) c.emit_read.ensures

pub emit-returns-in-Assign : goal.emit-returns-in-Assign
emit-returns-in-Assign t c = rw (assign_is _ _ _ _ _ c.in-Assign.is c.deref-in-Assign.ensures.value, ← c.deref-in-Assign-2.ensures) c.emit_assign.ensures

pub emit-returns-in-Update : goal.emit-returns-in-Update
emit-returns-in-Update t c = rw (update_is _ _ _ _ _ _ c.in-Update.is c.deref-in-Update.ensures.value, ← c.deref-in-Update-2.ensures) c.emit_update.ensures

pub emit-returns-in-Step : goal.emit-returns-in-Step
emit-returns-in-Step t c = rw (step_is _ _ _ _ _ _ c.in-Step.is c.deref-in-Step.ensures.value) c.emit_step.ensures

pub emit_keys-returns : goal.emit_keys-returns
emit_keys-returns t c = c.loop-key.invariant.2 _ (emitted_all _ _ _ _ c.loop-key-test.false)

pub emit-emit_read-requires : goal.emit-emit_read-requires
emit-emit_read-requires t c =
    let l = calls _ _ _ (read_is _ _ _ _ c.in-Read.is c.deref.ensures.value) c.requires.few in
    (omega (arith, c.decreases, l.0), l.1)

pub emit-emit_assign-requires : goal.emit-emit_assign-requires
emit-emit_assign-requires t c =
    let l = calls _ _ _ (assign_is _ _ _ _ _ c.in-Assign.is c.deref-in-Assign.ensures.value) c.requires.few in
    rw c.deref-in-Assign-2.ensures (omega (arith, c.decreases, l.0), l.1)

pub emit-emit_update-requires : goal.emit-emit_update-requires
emit-emit_update-requires t c =
    let l = calls _ _ _ (update_is _ _ _ _ _ _ c.in-Update.is c.deref-in-Update.ensures.value) c.requires.few in
    rw c.deref-in-Update-2.ensures (omega (arith, c.decreases, l.0), l.1)

pub emit-emit_step-requires : goal.emit-emit_step-requires
emit-emit_step-requires t c =
    let l = calls _ _ _ (step_is _ _ _ _ _ _ c.in-Step.is c.deref-in-Step.ensures.value) c.requires.few in
    (omega (arith, c.decreases, l.0), l.1)

pub emit_operation-returns : goal.emit_operation-returns
emit_operation-returns t c =
    rw (← c.register.ensures, ← c.register-2.ensures)
    (operands_on (typed_of c.args.a.now) (typed_of c.args.b.now) c.args.r _ c.operate.result _ _ _ c.operate.ensures c.in_ok-emit_operands.ensures)

pub emit-returns-in_ok-emit_operands-in-Compare : goal.emit-returns-in_ok-emit_operands-in-Compare
emit-returns-in_ok-emit_operands-in-Compare t c =
    rw (c.in-Compare.is, ← c.register-d.ensures, ← c.register.ensures, ← c.deref-in-Compare.ensures, ← c.deref-in-Compare-2.ensures)
    (operands_on (typed_of c.deref-in-Compare.result.now) (typed_of c.deref-in-Compare-2.result.now) c.args.r _ c.put_comparison.result _ _ _ c.put_comparison.ensures c.in_ok-emit_operands-in-Compare.ensures)

pub emit-returns-in_ok-emit_operands-in-CompareText : goal.emit-returns-in_ok-emit_operands-in-CompareText
emit-returns-in_ok-emit_operands-in-CompareText t c =
    rw (c.in-CompareText.is, ← c.register-d.ensures, ← c.register-in-CompareText.ensures, ← c.deref-in-CompareText.ensures, ← c.deref-in-CompareText-2.ensures)
    (operands_on (typed_of c.deref-in-CompareText.result.now) (typed_of c.deref-in-CompareText-2.result.now) c.args.r _ c.put_text_comparison.result _ _ _ c.put_text_comparison.ensures c.in_ok-emit_operands-in-CompareText.ensures)

pub emit-returns-in-Choice : goal.emit-returns-in-Choice
emit-returns-in-Choice t c =
    rw (c.in-Choice.is, ← c.deref-in-Choice.ensures, ← c.deref-in-Choice-2.ensures, ← c.deref-in-Choice-3.ensures)
    (c.emit_choice.ensures Text)

pub emit_choice-returns : goal.emit_choice-returns
emit_choice-returns t c = λ type.
    rw (← c.register.ensures)
    (both_adds _ _ _ _ _ c.in_ok-emit.ensures
    (choice_adds _ _ _ _ _ _ _ _ _ _ _ _ _ c.in_ok-put.ensures (c.len-branch.ensures ∙ c.put.new.draft.code.ok.0) c.in_ok-put-2.ensures c.in_ok-emit-2.ensures
    (c.len-jump.ensures ∙ c.emit-2.new.draft.code.ok.0) c.in_ok-put-3.ensures c.in_ok-emit-3.ensures c.close.ensures))

pub emit_logic-returns-in-And : goal.emit_logic-returns-in-And
emit_logic-returns-in-And t c =
    rw c.in-And.is c.emit_and.ensures

pub emit_logic-returns-in-Or : goal.emit_logic-returns-in-Or
emit_logic-returns-in-Or t c =
    rw c.in-Or.is c.emit_or.ensures

pub emit_and-returns : goal.emit_and-returns
emit_and-returns t c =
    rw (← c.register-d.ensures)
    (both_adds _ _ _ _ _ c.in_ok-emit.ensures
    (choice_adds _ _ _ _ _ _ _ _ _ _ _ _ _ c.in_ok-put.ensures (c.len-branch.ensures ∙ c.put.new.draft.code.ok.0) c.in_ok-put-2.ensures (both_adds _ _ _ _ _ c.in_ok-emit-2.ensures c.in_ok-put_bit.ensures)
    (c.len-jump.ensures ∙ c.put_bit.new.draft.code.ok.0) c.in_ok-put-3.ensures c.in_ok-put_number.ensures c.close.ensures))

pub emit_or-returns : goal.emit_or-returns
emit_or-returns t c =
    rw (← c.register-d.ensures)
    (both_adds _ _ _ _ _ c.in_ok-emit.ensures
    (choice_adds _ _ _ _ _ _ _ _ _ _ _ _ _ c.in_ok-put.ensures (c.len-branch.ensures ∙ c.put.new.draft.code.ok.0) c.in_ok-put-2.ensures c.in_ok-put_number.ensures
    (c.len-jump.ensures ∙ c.put_number.new.draft.code.ok.0) c.in_ok-put-3.ensures (both_adds _ _ _ _ _ c.in_ok-emit-2.ensures c.in_ok-put_bit.ensures) c.close.ensures))

pub emit_logic-returns-in_ok-emit_operands-in-Xor : goal.emit_logic-returns-in_ok-emit_operands-in-Xor
emit_logic-returns-in_ok-emit_operands-in-Xor t c =
    rw (c.in-Xor.is, ← c.register-d.ensures, ← c.register.ensures)
    (operands_on (typed_of c.args.a.now) (typed_of c.args.b.now) c.args.r (differing c.register-d.result c.register.result) c.put_differing.result _ _ _ c.put_differing.ensures c.in_ok-emit_operands-in-Xor.ensures)

pub emit_keys-loop-key-preserved : goal.emit_keys-loop-key-preserved
emit_keys-loop-key-preserved t c =
    let e = ap typeds_of (front c.args.keys.now c.loop-key.key-index c.key-item.result c.loop-key-test.true c.key-item.is) in
    let rest = typeds_of (drop (c.loop-key.key-index + 1) c.args.keys.now) in
    let few : c.args.r + max (c.loop-key.key-index + need (typed_of c.key-item.result)) (need_of_keys (c.loop-key.key-index + 1) rest) ≤ 7 =
    subst (λ ks. c.args.r + need_of_keys c.loop-key.key-index ks ≤ 7) e c.loop-key.invariant.1 in
    let same : c.loop-key.q ≡ c.args.r + c.loop-key.key-index = c.loop-key.invariant.0 in (
      omega arith,
      omega arith,
      λ z h. c.loop-key.invariant.2 z (subst (λ ks. Adds (keys_code ks c.loop-key.q) c.loop-key.draft z) (sym e) (both_adds _ _ _ _ _ c.in_ok-emit.ensures h)),
    )

pub emit_step-returns : goal.emit_step-returns
emit_step-returns t c =
    rw (← c.after.ensures, ← c.register-d.ensures, ← c.register.ensures)
    (on_ok_weaker c.lower.result
    (λ h. both_adds _ _ _ _ _ c.in_ok-emit_keys.ensures (both_adds _ _ _ _ _ c.in_ok-fetch.ensures (both_adds _ _ _ _ _ c.in_ok-put_step.ensures
    (both_adds _ _ _ _ _ c.in_ok-save.ensures (both_adds _ _ _ _ _ c.in_ok-put_answer.ensures h)))))
    c.lower.ensures)

pub emit_update-returns : goal.emit_update-returns
emit_update-returns t c =
    rw (← c.after-q.ensures, ← c.register-d.ensures, ← c.register.ensures, ← c.register-2.ensures, ← c.works_in.ensures)
    (on_ok_weaker c.lower.result
    (λ h. both_adds _ _ _ _ _ c.in_ok-emit_keys.ensures (both_adds _ _ _ _ _ c.in_ok-fetch.ensures (both_adds _ _ _ _ _ c.in_ok-narrow.ensures
    (both_adds _ _ _ _ _ c.in_ok-emit.ensures (both_adds _ _ _ _ _ c.in_ok-operate.ensures (both_adds _ _ _ _ _ c.in_ok-hold.ensures
    (both_adds _ _ _ _ _ c.in_ok-save.ensures h)))))))
    c.lower.ensures)
