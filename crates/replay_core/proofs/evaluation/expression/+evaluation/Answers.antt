use Rattle.std.proofs.Common.{rules, arith, ap}
use Rattle.d_types.proofs.Nodes.{read_is, assign_is, update_is, step_is}
use Rattle.replay_core.specs.Vocabulary.{typed_of}
use Rattle.replay_core.proofs.Weights.{weight, key_is_light}
use Rattle.replay_core.proofs.evaluation.expression.+evaluation.Goals as goal

pub evaluate-evaluate_key-requires : goal.evaluate-evaluate_key-requires
evaluate-evaluate_key-requires t c = let w = ap weight (read_is _ _ _ _ c.in-Read.is c.deref.ensures.value) in (omega (arith, w), tt)

pub evaluate-evaluate_key-requires-in-Assign : goal.evaluate-evaluate_key-requires-in-Assign
evaluate-evaluate_key-requires-in-Assign t c = let w = ap weight (assign_is _ _ _ _ _ c.in-Assign.is c.deref-in-Assign.ensures.value) in (omega (arith, w), tt)

pub evaluate-update-requires : goal.evaluate-update-requires
evaluate-update-requires t c = let w = ap weight (update_is _ _ _ _ _ _ c.in-Update.is c.deref-in-Update.ensures.value) in
    let right = ap (λ k. weight (typed_of k)) c.deref-in-Update-2.ensures in
    (omega (arith, w, right), tt)

pub evaluate-evaluate_key-requires-in-Step : goal.evaluate-evaluate_key-requires-in-Step
evaluate-evaluate_key-requires-in-Step t c = let w = ap weight (step_is _ _ _ _ _ _ c.in-Step.is c.deref-in-Step.ensures.value) in (omega (arith, w), tt)

pub evaluate_key-evaluate-requires : goal.evaluate_key-evaluate-requires
evaluate_key-evaluate-requires t c =
    let light = key_is_light c.args.keys.now c.loop-e.e-index c.e-item.result (omega arith) in
    let at = ap (λ k. weight (typed_of k)) c.e-item.is in
    (omega (arith, light, at), tt)

pub evaluate-returns-in_err-key-in-Read : goal.evaluate-returns-in_err-key-in-Read
evaluate-returns-in_err-key-in-Read t c = rw (read_is _ _ _ _ c.in-Read.is c.deref.ensures.value) (search rules)

pub evaluate-returns-in-Read : goal.evaluate-returns-in-Read
evaluate-returns-in-Read t c = rw (read_is _ _ _ _ c.in-Read.is c.deref.ensures.value) (search rules)

pub evaluate-returns-in_err-key-in-Assign : goal.evaluate-returns-in_err-key-in-Assign
evaluate-returns-in_err-key-in-Assign t c = rw (assign_is _ _ _ _ _ c.in-Assign.is c.deref-in-Assign.ensures.value) (search rules)

pub evaluate-returns-in_err-value-in-Assign : goal.evaluate-returns-in_err-value-in-Assign
evaluate-returns-in_err-value-in-Assign t c = rw (assign_is _ _ _ _ _ c.in-Assign.is c.deref-in-Assign.ensures.value) (search rules)

pub evaluate-returns-in-Assign : goal.evaluate-returns-in-Assign
evaluate-returns-in-Assign t c = rw (assign_is _ _ _ _ _ c.in-Assign.is c.deref-in-Assign.ensures.value) (search rules)

pub evaluate-returns-in-Update : goal.evaluate-returns-in-Update
evaluate-returns-in-Update t c = rw (update_is _ _ _ _ _ _ c.in-Update.is c.deref-in-Update.ensures.value) (search rules)

pub evaluate-returns-in_err-key-in-Step : goal.evaluate-returns-in_err-key-in-Step
evaluate-returns-in_err-key-in-Step t c = rw (step_is _ _ _ _ _ _ c.in-Step.is c.deref-in-Step.ensures.value) (search rules)

pub evaluate-returns-in-Step : goal.evaluate-returns-in-Step
evaluate-returns-in-Step t c = rw (step_is _ _ _ _ _ _ c.in-Step.is c.deref-in-Step.ensures.value) (search rules)
