use Rattle.std.specs.Prelude.{Some, slice_index_or}
use Rattle.std.proofs.Common.{ap, sym, ◌∙◌}
use Rattle.numbered.specs.Texts.{text_at}
use Rattle.dif_machine.specs.Vocabulary.{Text, at}
use Rattle.dif_machine.specs.Machine.{content_of}
use Rattle.dif_machine.specs.declared.content.Content.TheVariants as content
use Rattle.dif_machine.proofs.Holding.{at_content}
use Rattle.dif_machine.proofs.machine.Machine.word.Goals as goal

pub returns-in-Int-clause-is : goal.returns-in-Int-clause-is
returns-in-Int-clause-is c =
    let i = c.self.inside in
    ap (λ s. at s.frame.registers c.args.a) (sym c.self.view_is)
    ∙ at_content i.texts i.registers c.args.a
    ∙ ap (content_of i.texts) (ap (λ n. slice_index_or i.registers n content.Unset) (sym c.number.ensures.value) ∙ c.in-Int.is)

pub returns-in-Text-clause-is : goal.returns-in-Text-clause-is
returns-in-Text-clause-is c =
    let i = c.self.inside in
    ap (λ s. at s.frame.registers c.args.a) (sym c.self.view_is)
    ∙ at_content i.texts i.registers c.args.a
    ∙ ap (content_of i.texts) (ap (λ n. slice_index_or i.registers n content.Unset) (sym c.number.ensures.value) ∙ c.in-Text.is)
    ∙ ap (λ s. Some (Text (text_at s.texts c.in-Text.number))) c.self.view_is
