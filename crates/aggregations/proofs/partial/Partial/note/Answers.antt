use Rattle.std.proofs.Common.{sym, rules, ◌∙◌}
use Rattle.std.proofs.lemmas.Int.{to_z-of_z}
use Rattle.std.proofs.lemmas.Result.{on_ok_weaker}
use Rattle.aggregations.proofs.ValueLemmas.{count_after, counts_noted, one_after}
use Rattle.aggregations.proofs.partial.Partial.note.Goals as goal

pub returns-in-Counts-clause-value : goal.returns-in-Counts-clause-value
returns-in-Counts-clause-value c =
    let fits = c.ranges.arg in
    let value = simp to_z-of_z at c.note.ensures.value in
    record {
      ok = on_ok_weaker c.note.result (λ step. rw (sym c.self.view_is ∙ c.in-Counts.is) (counts_noted c.in-Counts.histogram c.note.new.self c.args.arg step)) value.ok;
      err = search rules;
    }

pub returns : goal.returns
returns c =
    let fits = c.ranges.arg in
    let held = c.self.inside.held in
    let is = simp to_z-of_z at c.take.ensures in
    let few = count_after held c.args.arg 1 in
    record {
      value = record { ok = rw (is, ← c.self.view_is) (one_after held c.args.arg c.in_default.not-Counts); err = tt };
      count = rw (is, ← c.self.view_is) few;
    }
