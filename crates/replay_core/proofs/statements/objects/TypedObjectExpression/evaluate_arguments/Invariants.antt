use Rattle.std.proofs.Common.{◌≡◌, ◌++◌, drop, map}
use Rattle.dif_codegen.specs.Meaning.{values_of_objects}
use Rattle.replay_core.specs.Vocabulary.{Has, with}
use Rattle.replay_core.specs.Evaluation.{Stays, variables_in}
use Rattle.replay_core.specs.WordStore.{words_seen}
use Rattle.replay_core.proofs.statements.objects.TypedObjectExpression.evaluate_arguments.Given as goal

abbrev pub invariant-loop-object : goal.invariant-loop-object
invariant-loop-object l =
    Stays words_seen l.fn.state l.state × (with (values_of_objects l.state.firing.now (map (λ x. x.returns) (drop l.object-index l.arguments)) (drop l.object-index l.arguments) (variables_in words_seen l.state)) (λ values. Has (l.values.items ++ values))
    ≡ values_of_objects l.fn.state.firing.now (map (λ x. x.returns) l.arguments) l.arguments (variables_in words_seen l.fn.state))
