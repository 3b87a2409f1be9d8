use Rattle.std.specs.Prelude.{◌≤◌, [], length}
use Rattle.std.proofs.Common.{arith, rules, sym, take, ◌∙◌}
use Rattle.std.proofs.lemmas.List.Elements.{All-cons, All-head, All-nil}
use Rattle.std.proofs.lemmas.Option.{get_or_from_slice_get, slice_get_within}
use Rattle.numbered.specs.declared.word.Word.TheVariants.{Text}
use Rattle.dif_machine.specs.Machine.{IsWithin}
use Rattle.dif_machine.proofs.Knowing.{found_more, found_still}
use Rattle.dif_machine.proofs.Holding.{first_kept, number_still}
use Rattle.dif_machine.proofs.built_in.find.Goals as goal

pub lasting_with-requires-clause-within : goal.lasting_with-requires-clause-within
lasting_with-requires-clause-within c =
    let P = IsWithin c.number.new.self in
    All-cons P (Text c.in_ok-number.number) [] (slice_get_within c.number.new.self _ _ c.in_ok-number.ensures.number) (All-nil P)

pub returns-in_err-number : goal.returns-in_err-number
returns-in_err-number c =
    let old = c.args.texts.now in
    let new = c.number.new.self in
    let n = c.number.ensures in
    let r = c.requires.ready in
    let inside : c.args.lasting.now ≤ length new = omega (arith, r.inside, n.kept.long) in
    let kept = first_kept old r.distinct c.args.lasting.now r.inside new n.kept c.args.lasting.now (omega arith) inside in
    record {
      finds = record { kept = n.kept; least = omega arith; has = record { distinct = n.distinct; inside = inside; found = found_still c.args.firing.now _ _ kept c.args.numbers.now r.found } };
      number = search rules;
      within = search rules;
    }

pub returns : goal.returns
returns c =
    let old = c.args.texts.now in
    let new = c.number.new.self in
    let n = c.number.ensures in
    let r = c.requires.ready in
    let l = c.lasting_with.ensures in
    let number = c.in_ok-number.ensures.number in
    let kept = first_kept old r.distinct c.args.lasting.now r.inside new n.kept _ l.least l.most in
    let inside = All-head (IsWithin (take c.lasting_with.result new)) (Text c.in_ok-number.number) [] l.within in
    record {
      finds = record {
        kept = n.kept;
        least = l.least;
        has = record {
          distinct = n.distinct;
          inside = l.most;
          found = found_more c.args.firing.now _ _ kept c.args.numbers.now r.found c.args.index _ c.text.result.now (sym c.text.ensures) (number_still new c.lasting_with.result c.in_ok-number.number c.text.result.now number inside);
        };
      };
      number = sym c.text.ensures ∙ sym (get_or_from_slice_get new _ _ [] number);
      within = slice_get_within new _ _ number;
    }
