-- A run by workers, before its answer is written.
use Rattle.std.specs.Prelude.{◌≡◌, ℕ, List, Vec, vec_len}
use Rattle.std.specs.declared.alloc.Global.{Global}
use Rattle.replay_core.specs.{Exit.firings_over, Seen.whole_seen}
use Rattle.replay_core.specs.{declared.collector.whole.Whole.Whole}
use Rattle.replay_core.specs.Groups.{IsAllBelow}
use Rattle.replay_core.specs.Pieces.{IsWholeOf, RunsEachOnce}
use Rattle.consumer.specs.Vocabulary.{flat_map, Firing, ScriptMeant, Grouping}

-- the whole, and the groups that each worker took
abbrev pub Ran : Type 0
Ran = Whole × Vec (Vec ℕ Global) Global

-- a run of the script over these firings by workers, each group by one of them
pub record IsRunBy (m : ScriptMeant) (firings : List Firing) (grouping : Grouping) (workers : ℕ)
    (ran : Ran) : Type 0 where
  pub whole : IsWholeOf m (firings_over m firings) grouping (whole_seen ran.0)
  pub once : RunsEachOnce (firings_over m firings) (whole_seen ran.0)
  pub lists : vec_len ran.1 ≡ workers
  pub took : IsAllBelow grouping.count (flat_map (λ list. list.items) ran.1.items)
