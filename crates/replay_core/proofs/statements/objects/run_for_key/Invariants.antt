use Rattle.std.proofs.Common.{◌≡◌, ◌++◌, drop, All}
use Rattle.numbered.specs.Words.{key_in}
use Rattle.dif_codegen.specs.Meaning.{key_of_objects}
use Rattle.dif_machine.specs.Machine.{IsWithin}
use Rattle.replay_core.specs.Vocabulary.{Has, with}
use Rattle.replay_core.specs.Evaluation.{Stays, variables_in}
use Rattle.replay_core.specs.WordStore.{words_seen}
use Rattle.replay_core.proofs.statements.objects.run_for_key.Given as goal

abbrev pub invariant-loop-object : goal.invariant-loop-object
invariant-loop-object l = record {
  stays : Stays words_seen l.fn.state l.state;
  within : All (IsWithin l.state.store.now.texts) l.key.items;
  parts : with (key_of_objects l.state.firing.now (drop l.object-index l.objects) (variables_in words_seen l.state)) (λ key. Has (key_in l.state.store.now.texts l.key.items ++ key))
      ≡ key_of_objects l.fn.state.firing.now l.objects (variables_in words_seen l.fn.state);
}
