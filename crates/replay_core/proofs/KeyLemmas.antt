-- Keys of words, a word further.
use Rattle.std.proofs.Common.{◌≡◌, ◌++◌, ℕ, List, [], ◌∷◌, Err, All, refl, sym, ap, ◌∙◌}
use Rattle.std.proofs.Common.{append_assoc}
use Rattle.std.proofs.lemmas.List.Elements.{All-push, All-weaker}
use Rattle.numbered.specs.Texts.{Keeps}
use Rattle.numbered.specs.Words.{key_in}
use Rattle.numbered.specs.declared.word.Word.{Word}
use Rattle.dif_machine.specs.CellLaws.{word_within}
use Rattle.dif_machine.specs.Machine.{IsWithin}
use Rattle.dif_machine.proofs.Holding.{key_kept}
use Rattle.dif_codegen.specs.Meaning.{key_of_objects, value_of}
use Rattle.dif_codegen.specs.declared.program.TypedObject.{TypedObject}
use Rattle.replay_core.specs.Vocabulary.{part_of, KeyPart, Value, Firing, Outcome, Has, Faults}
use Rattle.replay_core.specs.Vocabulary.{with, Variables}
use Rattle.replay_core.specs.declared.evaluation.fault.EvalFault.{EvalFault}
use Rattle.replay_core.specs.Evaluation.{Returns}
use Rattle.replay_core.specs.Steps.Evaluation.{IsMadeKey}
use Rattle.dif_machine.specs.Machine as machine

module _ (old new : List (List ℕ)) (kept : Keeps old new) where
  pub within_more : (words : List Word) (w : Word) → All (IsWithin old) words → IsWithin new w → All (IsWithin new) (words ++ w ∷ [])
  within_more words w all one =
      All-push (IsWithin new) words w (All-weaker (IsWithin old) (IsWithin new) (word_within old new kept) words all) one

  key_more : (words : List Word) (w : Word) → key_in new (words ++ w ∷ []) ≡ key_in new words ++ part_of (machine.value_of new w) ∷ []
  key_more [] w = refl
  key_more (x ∷ words) w = ap (λ ps. part_of (machine.value_of new x) ∷ ps) (key_more words w)

  -- the word of one more object
  pub part_further : (f : Firing) (objects rest : List TypedObject) (object : TypedObject) (words : List Word) (w : Word) (vars after : Variables)
      → objects ≡ object ∷ rest → All (IsWithin old) words → value_of f object.object vars ≡ Has (machine.value_of new w) after
      → with (key_of_objects f rest after) (λ key. Has (key_in new (words ++ w ∷ []) ++ key)) ≡ with (key_of_objects f objects vars) (λ key. Has (key_in old words ++ key))
  part_further f objects rest object words w vars after there all e =
      goes (key_of_objects f rest after)
      ∙ ap (λ o. with (with o (λ v vars. with (key_of_objects f rest vars) (λ key. Has (part_of v ∷ key)))) (λ key. Has (key_in old words ++ key))) (sym e)
      ∙ ap (λ os. with (key_of_objects f os vars) (λ key. Has (key_in old words ++ key))) (sym there)
    where
      goes : (y : Outcome (List KeyPart)) → with y (λ key. Has (key_in new (words ++ w ∷ []) ++ key))
          ≡ with (with y (λ key. Has (part_of (machine.value_of new w) ∷ key))) (λ key. Has (key_in old words ++ key))
      goes (Has key vars) = ap (λ k. Has k vars)
          (ap (λ l. l ++ key) (key_more words w ∙ ap (λ l. l ++ part_of (machine.value_of new w) ∷ []) (key_kept old new kept words all))
          ∙ append_assoc (key_in old words) (part_of (machine.value_of new w) ∷ []) key)
      goes (Faults vars) = refl

-- an object that has no value
pub part_faults : (f : Firing) (objects rest : List TypedObject) (object : TypedObject) (before made : List KeyPart) (e : EvalFault) (o : Outcome (List KeyPart)) (vars after : Variables)
    → objects ≡ object ∷ rest → Returns {A = Value} (value_of f object.object vars) (Err e) after
    → with (key_of_objects f objects vars) (λ key. Has (before ++ key)) ≡ o → IsMadeKey {A = ℕ} o (Err e) made after
part_faults f objects rest object before made EvalFault.DivideByZero o vars after there faults is =
    sym is ∙ ap (λ os. with (key_of_objects f os vars) (λ key. Has (before ++ key))) there
    ∙ ap (λ q. with (with q (λ v vars. with (key_of_objects f rest vars) (λ key. Has (part_of v ∷ key)))) (λ key. Has (before ++ key))) faults
part_faults f objects rest object before made EvalFault.Memory o vars after there faults is = tt
