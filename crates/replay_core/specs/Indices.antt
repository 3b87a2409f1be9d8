-- Which clauses run for a probe, by their indices.
-- Source: Dynamic Tracing Guide, "Probe Descriptions".
use Rattle.std.specs.Prelude.{ℕ, ◌+◌, List, [], ◌∷◌, ◌++◌, filter, map, flat_map, replicate}
use Rattle.d_parser.specs.declared.tree.Description.{Description}
use Rattle.firings.specs.declared.unit.Probe.{Probe}
use Rattle.replay_core.specs.declared.selection.clause_indices.Repeat.{Repeat}
use Rattle.replay_core.specs.Patterns.{selects}

-- the indices from the given one on: each once for each description that selects the probe
abbrev pub indices_for : Probe → ℕ → List (List Description) → List ℕ
indices_for p index [] = []
indices_for p index (ds ∷ rest) =
    map (λ d. index) (filter (λ d. selects d p) ds) ++ indices_for p (index + 1) rest

-- ---- clauses that run several times in a row

-- each clause's index as often in a row as it runs
abbrev pub indices_in_turn : List Repeat → List ℕ
indices_in_turn repeats = flat_map (λ r. replicate r.times r.index) repeats
