use Rattle.std.proofs.Common.{ap, subst, sym, ◌∙◌}
use Rattle.dif_machine.specs.Machine.{Knows, Seen, seen_of}
use Rattle.dif_machine.specs.Steps.Lasting.{Lasts}
use Rattle.dif_machine.proofs.Holding.{first_among, first_kept, frame_kept}
use Rattle.dif_machine.proofs.machine.Machine.built_in.Goals as goal

pub built_in-requires-clause-ready : goal.built_in-requires-clause-ready
built_in-requires-clause-ready c = record {
  distinct = c.self.invariant.distinct;
  inside = c.self.invariant.inside;
  found = record { known = subst (λ (s : Seen). Knows c.args.firing.now s.known) (sym c.self.view_is) c.requires.known; numbers = c.self.invariant.numbers };
}

pub returns-clause-lasting : goal.returns-clause-lasting
returns-clause-lasting c =
    let i = c.self.inside in
    let f = c.built_in.ensures.finds in
    subst (λ (s : Seen). Lasts s (seen_of c.built_in.new.texts c.built_in.new.lasting i.registers i.comparison i.tuple c.built_in.new.numbers)) c.self.view_is (record {
      more = first_kept i.texts c.self.invariant.distinct i.lasting c.self.invariant.inside _ f.kept _ f.least f.has.inside;
      among = first_among _ f.has.distinct _ f.has.inside;
    })

pub returns-clause-frame : goal.returns-clause-frame
returns-clause-frame c =
    let i = c.self.inside in
    let new = c.built_in.new.texts in
    (frame_kept i.texts new c.built_in.ensures.finds.kept i.lasting i.registers i.comparison i.tuple i.numbers c.self.invariant ∙ ap (λ s. s.frame) c.self.view_is)
