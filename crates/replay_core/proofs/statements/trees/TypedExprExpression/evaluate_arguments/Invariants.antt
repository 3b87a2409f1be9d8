use Rattle.std.proofs.Common.{◌≡◌, ◌++◌, drop, map}
use Rattle.replay_core.specs.Vocabulary.{typeds_of, Has, with, values_of}
use Rattle.replay_core.specs.Evaluation.{Stays, variables_in}
use Rattle.replay_core.specs.Forms.{expression_type}
use Rattle.replay_core.specs.Threads.{tables_seen}
use Rattle.replay_core.proofs.statements.trees.TypedExprExpression.evaluate_arguments.Given as goal

abbrev pub invariant-loop-argument : goal.invariant-loop-argument
invariant-loop-argument l =
    Stays tables_seen l.fn.state l.state × (with (values_of l.state.firing.now (map expression_type (drop l.argument-index l.arguments)) (typeds_of (drop l.argument-index l.arguments)) (variables_in tables_seen l.state)) (λ values. Has (l.values.items ++ values))
    ≡ values_of l.fn.state.firing.now (map expression_type l.arguments) (typeds_of l.arguments) (variables_in tables_seen l.fn.state))
