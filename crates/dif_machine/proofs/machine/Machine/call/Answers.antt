use Rattle.std.specs.Prelude.{◌≡◌, IfOk, List, Some}
use Rattle.std.proofs.Common.{ap, subst, ◌∙◌}
use Rattle.dif_machine.specs.Machine.{IsWordOf, key_in}
use Rattle.dif_machine.specs.Operators.{call_of}
use Rattle.dif_machine.specs.Vocabulary.{KeyPart, Value}
use Rattle.dif_machine.proofs.Holding.{grown}
use Rattle.dif_machine.proofs.machine.Machine.call.Goals as goal

pub returns-clause-grows : goal.returns-clause-grows
returns-clause-grows c = grown _ _ c.call.ensures.kept _ _ _ _ _ _ c.self.invariant c.self.view_is

pub returns-clause-word : goal.returns-clause-word
returns-clause-word c =
    subst (λ (tuple : List KeyPart). IfOk c.call.result (λ word. (value : Value) → call_of c.args.function tuple ≡ Some value → IsWordOf c.call.new.texts word value))
    (ap (key_in c.self.inside.texts) c.words.ensures.words ∙ ap (λ s. s.frame.tuple) c.self.view_is) c.call.ensures.word
