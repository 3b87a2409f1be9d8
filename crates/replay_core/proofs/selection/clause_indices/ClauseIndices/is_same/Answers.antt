use Rattle.std.proofs.Common.{◌≡◌, ◌∙◌, ap, sym}
use Rattle.std.proofs.lemmas.Slice.Eq.{slice_eq-Decides}
use Rattle.replay_core.specs.Indices.{indices_in_turn}
use Rattle.replay_core.proofs.RepeatLemmas.{repeats_same}
use Rattle.replay_core.proofs.selection.clause_indices.ClauseIndices.is_same.Goals as goal

pub returns : goal.returns
returns c = λ eq.
    let same : c.as_slice.result.now ≡ c.as_slice-2.result.now = (slice_eq-Decides repeats_same c.as_slice.result.now c.as_slice-2.result.now c.eq.result c.eq.ensures).0 eq in
    sym c.self.view_is ∙ ap indices_in_turn (sym c.as_slice.ensures.value ∙ same ∙ c.as_slice-2.ensures.value) ∙ c.other.view_is
