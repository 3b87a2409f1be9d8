use Rattle.std.specs.Prelude.{◌≡◌, Some, slice_set, take}
use Rattle.std.proofs.Common.{ap, subst, sym, ◌∙◌}
use Rattle.std.proofs.lemmas.List.Elements.{All-set}
use Rattle.dif_machine.specs.Frames.{with_register}
use Rattle.dif_machine.specs.Steps.Instructions.{with_frame}
use Rattle.dif_machine.specs.Machine.{IsContentWithin, IsWithin, Seen, contents, found_of, key_in, seen_of, value_of}
use Rattle.dif_machine.proofs.Holding.{not_first, put_content}
use Rattle.dif_machine.proofs.machine.Machine.put.Goals as goal

pub returns : goal.returns
returns c =
    let i = c.self.inside in
    let registers = ap (λ n. contents i.texts (slice_set i.registers n c.content.result)) c.number.ensures.value
    ∙ put_content i.texts i.registers c.args.d c.content.result _ (c.content.ensures.value i.texts) (not_first c.args.d (λ e. let x = rw e at c.if-eq.ensures in cc)) in
    subst (λ (s : Seen). seen_of i.texts i.lasting (slice_set i.registers c.number.result c.content.result) i.comparison i.tuple i.numbers ≡ with_frame s (with_register s.frame c.args.d (Some (value_of s.texts c.args.word)))) c.self.view_is
    (λ j. record { texts = i.texts; lasting = take i.lasting i.texts; frame = record { pc = 0; registers = registers j; comparison = i.comparison; tuple = key_in i.texts i.tuple }; known = found_of (take i.lasting i.texts) i.numbers })

pub invariant_of-self : goal.invariant_of-self
invariant_of-self c =
    let i = c.self.inside in
    let within = subst (λ (s : Seen). IsWithin s.texts c.args.word) (sym c.self.view_is) c.requires in
    record {
      distinct = c.self.invariant.distinct;
      inside = c.self.invariant.inside;
      registers = All-set (IsContentWithin i.texts) i.registers c.number.result c.content.result (c.content.ensures.within i.texts within) c.self.invariant.registers;
      tuple = c.self.invariant.tuple;
      numbers = c.self.invariant.numbers;
    }
