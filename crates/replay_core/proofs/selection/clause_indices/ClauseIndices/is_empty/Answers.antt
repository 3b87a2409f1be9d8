use Rattle.std.proofs.Common.{◌∙◌, ◌==◌, ap, length, List, ℕ}
use Rattle.replay_core.proofs.RepeatLemmas.{none_at_all}
use Rattle.replay_core.proofs.selection.clause_indices.ClauseIndices.is_empty.Goals as goal

pub returns : goal.returns
returns c =
    let all = c.self.inside.repeats.items in
    c.is_empty.ensures ∙ ap (λ (n : ℕ). n == 0) c.self.inside.repeats.ok.0 ∙ none_at_all all c.self.invariant ∙ ap (λ (l : List ℕ). length l == 0) c.self.view_is
