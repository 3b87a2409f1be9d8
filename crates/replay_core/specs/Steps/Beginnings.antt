-- A lane that was given a beginning of its firings.
use Rattle.std.specs.Prelude.{ℕ, List}
use Rattle.replay_core.specs.Vocabulary.{Firing, ScriptMeant}
use Rattle.replay_core.specs.{Lanes.LaneSeen, Running.IsLaneOf}
use Rattle.replay_core.specs.Beginnings.{IsBeginning}

-- the lane was given a beginning of these firings
abbrev pub RunsBeginning : ScriptMeant → ℕ → List Firing → LaneSeen → Type 0
RunsBeginning m seen all lane =
    (fired : List Firing) × IsBeginning m seen fired all × IsLaneOf m fired lane
