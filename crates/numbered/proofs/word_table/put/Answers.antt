use Rattle.std.proofs.Common.{ap, sym, ◌∙◌}
use Rattle.std.specs.Option.{option_copied_mut, option_map}
use Rattle.indexmap.proofs.CallerLemmas.{updates-with_value_at}
use Rattle.std.specs.Cmp.Lexicographic.{nat_list_eq_equiv}
use Rattle.std.proofs.lemmas.Option.{slice_get-map}
use Rattle.numbered.proofs.word_table.put.Goals as goal

pub returns-in-Some : goal.returns-in-Some
returns-in-Some c = λ key at.
    updates-with_value_at c.args.map.now c.args.index c.args.word nat_list_eq_equiv c.get_index_mut.ensures.unique key at.held at.entry

pub returns-in_default : goal.returns-in_default
returns-in_default c =
    let at = c.requires.1 in
    let there = slice_get-map (λ e. e.1) c.args.map.now.entries c.args.index ∙ ap (option_map (λ e. e.1)) at.entry in
    let none = ap option_copied_mut c.in_default.is in
    let was = sym c.get_index_mut.ensures.value ∙ none in
    absurd cc
