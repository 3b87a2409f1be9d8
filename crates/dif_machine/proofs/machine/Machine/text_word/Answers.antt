use Rattle.dif_machine.proofs.Holding.{grown, lasts}
use Rattle.dif_machine.proofs.machine.Machine.text_word.Goals as goal

pub returns-in_err-word-clause-grows : goal.returns-in_err-word-clause-grows
returns-in_err-word-clause-grows c = grown _ _ c.text_word.ensures.kept _ _ _ _ _ _ c.self.invariant c.self.view_is

pub returns-clause-grows : goal.returns-clause-grows
returns-clause-grows c = lasts _ _ c.text_word.ensures.kept _ _ _ _ _ _ c.self.invariant c.self.view_is _ c.lasting_with-self-inside.ensures.least c.lasting_with-self-inside.ensures.most
