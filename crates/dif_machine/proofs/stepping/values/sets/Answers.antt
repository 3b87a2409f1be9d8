use Rattle.std.proofs.Common.{refl, sym, ap, subst, ◌∙◌}
use Rattle.std.proofs.lemmas.Option.{slice_get_read}
use Rattle.dif_machine.specs.Frames.{at_index}
use Rattle.dif_machine.specs.Machine.{Knows}
use Rattle.dif_machine.specs.Semantics.{on, puts}
use Rattle.dif_machine.specs.Vocabulary.{Text}
use Rattle.dif_machine.proofs.Executing.{finds}
use Rattle.dif_machine.proofs.stepping.values.sets.Goals as goal

pub returns : goal.returns
returns c =
    let k = c.text_word.ensures.grows in
    let there = slice_get_read c.args.difo.now.texts.items _ c.args.i c.index-text.result.now refl c.requires.inside c.index-text.ensures in
    λ f. finds _ _ f _ _ _ _ _ k.kept k.lasting k.frame (subst (Knows f) (sym k.known)) c.put.ensures
    (λ index vars. ap (λ x. on x (λ bytes. puts (at_index c.args.machine.now.frame index) c.args.d (Text bytes) vars)) there
    ∙ ap (λ value. puts (at_index c.args.machine.now.frame index) c.args.d value vars) (ap Text (sym c.as_bytes.ensures) ∙ sym c.in_ok-word.ensures.word.is))
