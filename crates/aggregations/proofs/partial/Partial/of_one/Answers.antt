use Rattle.std.proofs.Common.{[], sym, ◌∙◌}
use Rattle.std.proofs.lemmas.Int.{to_z-of_z}
use Rattle.aggregations.proofs.ValueLemmas.{scaled_value}
use Rattle.aggregations.proofs.partial.Partial.of_one.Goals as goal

pub returns-in-Some-clause-value : goal.returns-in-Some-clause-value
returns-in-Some-clause-value c =
    let fits = c.ranges.arg in
    let step = (simp to_z-of_z at c.in_ok-note.ensures.value).ok in
    scaled_value c.args.function c.in-Some.scale _ _ (sym c.scale.ensures ∙ c.in-Some.is) (step c.in-Some.scale [] c.new-histogram.ensures)
