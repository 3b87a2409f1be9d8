use Rattle.std.proofs.Common.{◌≡◌, Some, None, rules, sym, ap, ◌∙◌}
use Rattle.std.specs.Prelude.{FitsSigned}
use mir.Syntax.{w64}
use Rattle.std.proofs.lemmas.Int.{to_z-of_z}
use Rattle.std.proofs.lemmas.Result.{on_ok_weaker}
use Rattle.aggregations.specs.Figures.{figure_of, histogram_in}
use Rattle.aggregations.specs.Steps.Held.{after, count_of, number_of}
use Rattle.aggregations.proofs.ValueLemmas.{both_after, counts_joined, held_histogram, only_counts}
use Rattle.aggregations.proofs.partial.Partial.join.Goals as goal

pub returns-in_default-histogram-clause-value : goal.returns-in_default-histogram-clause-value
returns-in_default-histogram-clause-value c =
    let none : histogram_in (figure_of c.args.other.now) ≡ None = search rules in
    rw (sym c.self.view_is ∙ c.in-Counts.is) (only_counts c.in-Counts.histogram c.args.other.now _ none)

pub returns-in-Counts-clause-value : goal.returns-in-Counts-clause-value
returns-in-Counts-clause-value c =
    let more = c.in-Some.more.now in
    let held : histogram_in (figure_of c.args.other.now) ≡ Some more = search rules in
    on_ok_weaker c.join.result (λ step. rw (sym c.self.view_is ∙ c.in-Counts.is, held_histogram c.args.other.now more held)
    (counts_joined c.in-Counts.histogram more c.join.new.self step)) c.join.ensures.value

pub returns-clause-value : goal.returns-clause-value
returns-clause-value c =
    let held = c.self.inside.held in
    let other = c.args.other.now in
    let fits : FitsSigned w64 c.number.result = search rules in
    let taken = simp to_z-of_z at c.take.ensures in
    let number = c.number.ensures ∙ ap number_of c.other.view_is in
    let count = c.count.ensures ∙ ap count_of c.other.view_is in
    rw (taken ∙ ap (λ z. after held z c.count.result) number ∙ ap (after held (number_of other)) count, ← c.self.view_is) (both_after held other c.in_default.not-Counts)
