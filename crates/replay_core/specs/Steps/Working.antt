-- What a worker is given, and the firings that it takes.
use Rattle.std.specs.Prelude.{ℕ, List, take, drop}
use Rattle.replay_core.specs.Vocabulary.{Firing, ScriptMeant, flat_map}
use Rattle.replay_core.specs.{Selecting.AreSelected, Working.IsReady}
use Rattle.replay_core.specs.declared.workers.worker.WorkerInput.{WorkerInput}

-- the firings at these indices
abbrev pub firings_at : List Firing → List ℕ → List Firing
firings_at fs indices = flat_map (λ index. take 1 (drop index fs)) indices

-- what a worker is given is ready, and the clauses are those that the script selects
abbrev pub IsInput : {L G : Type 0} → (ScriptMeant → Type 0) → WorkerInput L G → Type 0
IsInput runs input =
    IsReady runs input.groups.now input.trace.now
    × AreSelected runs input.trace.now input.selections.now
