use Rattle.std.specs.Prelude.{◌≡◌, ◌<◌, ◌-◌, None, Some, length, slice_get, take}
use Rattle.std.proofs.Common.{ap, arith, rules, sym, ◌∙◌}
use Rattle.std.proofs.lemmas.Option.{slice_get-get_or}
use Rattle.dif_machine.specs.Vocabulary.{Text}
use Rattle.dif_machine.proofs.Holding.{first_among}
use Rattle.dif_machine.proofs.Knowing.{known_there, text_is}
use Rattle.dif_machine.proofs.built_in.built_in.Goals as goal

pub returns-in-Some-clause-word : goal.returns-in-Some-clause-word
returns-in-Some-clause-word c =
    let r = c.requires.ready in
    let lasting = take c.args.lasting.now c.args.texts.now in
    let there : slice_get c.args.numbers.now (c.args.v - 4) ≡ Some (Some c.in-Some.number) = slice_get-get_or c.args.numbers.now (c.args.v - 4) None (omega arith) ∙ ap Some c.in-Some.is in
    let within : c.in-Some.number < length lasting = search rules in
    let number = known_there c.args.firing.now lasting c.args.numbers.now r.found.known (c.args.v - 4) c.in-Some.number there in
    let among = first_among c.args.texts.now r.distinct c.args.lasting.now r.inside in
    record {
      is = ap Text (sym (number ∙ sym (among.same c.in-Some.number within))) ∙ sym (text_is c.args.firing.now c.args.v (omega arith) c.requires.there);
      within = omega (arith, within, among.long);
    }
