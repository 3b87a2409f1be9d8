use Rattle.std.proofs.Common.{◌≡◌, ◌+◌, ◌*◌, ◌++◌, drop}
use Rattle.replay_core.specs.Vocabulary.{typed_of, typeds_of, Has, with, keys_of}
use Rattle.replay_core.specs.Evaluation.{Stays, variables_in}
use Rattle.replay_core.specs.Threads.{tables_seen}
use Rattle.replay_core.proofs.Weights.{weight, weights}
use Rattle.replay_core.proofs.evaluation.expression.+evaluation.Given as goal

abbrev pub invariant-evaluate_key-loop-e : goal.invariant-evaluate_key-loop-e
invariant-evaluate_key-loop-e l =
    Stays tables_seen l.fn.state l.state × (with (keys_of l.state.firing.now (typeds_of (drop l.e-index l.keys)) (variables_in tables_seen l.state)) (λ rest. Has (l.key ++ rest))
    ≡ keys_of l.fn.state.firing.now (typeds_of l.keys) (variables_in tables_seen l.fn.state))

abbrev pub decreases-logic : goal.decreases-logic
decreases-logic l = 5 * (weight (typed_of l.a.now) + weight (typed_of l.b.now)) + 3

abbrev pub decreases-evaluate : goal.decreases-evaluate
decreases-evaluate l = 5 * weight (typed_of l.e.now)

abbrev pub decreases-evaluate_key : goal.decreases-evaluate_key
decreases-evaluate_key l = 5 * weights (typeds_of l.keys.now) + 3

abbrev pub decreases-update : goal.decreases-update
decreases-update l = 5 * (weights (typeds_of l.keys.now) + weight (typed_of l.a.now)) + 4
