use Rattle.std.specs.Prelude.{take}
use Rattle.std.proofs.Common.{subst, ◌∙◌}
use Rattle.dif_machine.specs.Machine.{Seen}
use Rattle.dif_machine.specs.Steps.Lasting.{Rests}
use Rattle.dif_machine.proofs.Holding.{first_kept, found_kept, keeps_on, keeps_refl}
use Rattle.dif_machine.proofs.machine.Machine.end.Goals as goal

pub returns-then-self-len-clause-rests : goal.returns-then-self-len-clause-rests
returns-then-self-len-clause-rests c =
    let i = c.self.inside in
    let l = c.lasting_with-self-inside in
    let rests = c.forget.ensures.rests in
    let before = take i.lasting i.texts in
    let last = take l.result i.texts in
    let more = first_kept i.texts c.self.invariant.distinct i.lasting c.self.invariant.inside i.texts (keeps_refl i.texts) l.result l.ensures.least l.ensures.most in
    subst (λ (s : Seen). Rests s c.forget.new.self) c.self.view_is (record {
      all = rests.all;
      more = keeps_on before last c.forget.new.self.lasting more rests.more;
      among = rests.among;
      known = rests.known ∙ found_kept before last more i.numbers c.self.invariant.numbers;
    })
