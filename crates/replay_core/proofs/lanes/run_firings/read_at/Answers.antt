use Rattle.std.proofs.Common.{◌≡◌, Some, sym, ◌∙◌}
use Rattle.replay_core.specs.Vocabulary.{row_before}
use Rattle.replay_core.proofs.FetchLemmas.{row_at}
use Rattle.replay_core.proofs.lanes.run_firings.read_at.Goals as goal

pub returns-in-Some : goal.returns-in-Some
returns-in-Some c =
    let found : Some (row_before c.args.trace.now c.args.index) ≡ Some (Some c.in-Some.firing) = sym c.requires.row ∙ c.in-Some.ensures in
    let is : row_before c.args.trace.now c.args.index ≡ Some c.in-Some.firing = cc in
    row_at c.args.trace.now c.args.index c.in-Some.firing is
