-- The aggregations that a clause names, and how often it contributes.
use Rattle.std.specs.Prelude.{ℕ, ◌+◌, ◌≤◌, List, [], ◌∷◌, All, length, max, sum_by}
use Rattle.replay_core.specs.Vocabulary.{AggFn, MAX_BYTES}
use Rattle.d_types.specs.Typed.{ActionOf, Evaluate, Trace, Print, Exit, Aggregate, ClauseMeant}

-- the index of an action's aggregation is below this
abbrev pub index_in : {E Es : Type 0} → ActionOf E Es → ℕ
index_in (Evaluate x) = 0
index_in (Trace t x) = 0
index_in (Print format types arguments) = 0
index_in (Exit x) = 0
index_in (Aggregate index keys argument) = index + 1

abbrev pub indices_among : {E Es : Type 0} → List (ActionOf E Es) → ℕ
indices_among [] = 0
indices_among (a ∷ rest) = max (index_in a) (indices_among rest)

-- the indices of a clause's aggregations are below this
abbrev pub indices_in : ClauseMeant → ℕ
indices_in c = indices_among c.statements

-- an engine's clauses name aggregations of these functions, contribute at most this often, and have
-- at most this many descriptions together
pub record AreBounded {C : Type 0} (indices most probes : C → ℕ) (clauses : List C)
    (functions : List AggFn) : Type 0 where
  pub named : All (λ c. indices c ≤ length functions) clauses
  pub few : All (λ c. most c ≤ MAX_BYTES) clauses
  pub described : sum_by probes clauses ≤ MAX_BYTES
