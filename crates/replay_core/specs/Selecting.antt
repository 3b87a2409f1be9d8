-- Which clauses are selected for each firing of a run.
-- Source: Dynamic Tracing Guide, "Probe Descriptions".
use Rattle.std.specs.Borrow.{Bor}
use Rattle.std.specs.Prelude.{◌≡◌, ◌≤◌, ◌⊎◌, ℕ, List, [], ◌∷◌, ◌++◌, All, Option, get_or}
use Rattle.std.specs.Prelude.{length, map, option_map}
use Rattle.replay_core.specs.Patterns.{probe_of}
use Rattle.replay_core.specs.Indices.{indices_for}
use Rattle.replay_core.specs.Vocabulary.{Firing, MAX_BYTES, ScriptMeant, with_ends}

-- the clauses that run for a firing, by their indices in the script
abbrev pub selected_for : ScriptMeant → Firing → List ℕ
selected_for m f = indices_for (probe_of f) 0 (map (λ c. c.descriptions) m.clauses)

-- these are the indices of the script's clauses for each firing of a run over the trace, or none
-- are given
abbrev pub AreFor : List Firing → List (List ℕ) → ScriptMeant → Type 0
AreFor trace selected m =
    (selected ≡ []) ⊎ (selected ≡ map (selected_for m) (with_ends trace trace))

-- the indices of the clauses that the script selects for each firing of a run over the trace
pub record AreSelected (runs : ScriptMeant → Type 0) (trace : List Firing)
    (selected : List (List ℕ)) : Type 0 where
  pub few : All (λ indices. length indices ≤ MAX_BYTES) selected
  pub each : (m : ScriptMeant) → runs m → AreFor trace selected m

-- the indices that are lent, if any are
abbrev pub lent : Option (Bor (List ℕ)) → Option (List ℕ)
lent indices = option_map (λ l. l.now) indices

-- ---- lists that are kept once

-- the list at an index; an empty one if there is none
abbrev pub list_at : List (List ℕ) → ℕ → List ℕ
list_at lists index = get_or lists index []

-- the lists of BEGIN, of each row and of END, by their indices
abbrev pub selected_in : (lists : List (List ℕ)) (begin : ℕ) (rows : List ℕ) (end : ℕ)
    → List (List ℕ)
selected_in lists begin rows end =
    list_at lists begin ∷ (map (list_at lists) rows ++ list_at lists end ∷ [])
