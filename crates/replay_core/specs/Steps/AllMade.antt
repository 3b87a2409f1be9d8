-- Clauses that run one after the other, by their indices.
use Rattle.std.specs.Prelude.{ℕ, ◌+◌, List, [], ◌∷◌, slice_get, Option, None, Some}
use Rattle.d_types.specs.Clauses.{Made, run_of, nothing_made, and_then}
use Rattle.d_types.specs.Storage.{Variables}
use Rattle.d_types.specs.Typed.{ClauseMeant}
use Rattle.firings.specs.declared.firing.Firing.{Firing}

-- a run of the clause at an index, if there is one
abbrev pub run_at : Firing → ℕ → Option ClauseMeant → Variables → Made
run_at f index None vars = nothing_made vars
run_at f index (Some c) vars = run_of f (index + 1) c vars

-- the clauses at these indices, one after the other
abbrev pub all_made : Firing → List ClauseMeant → List ℕ → Variables → Made
all_made f cs [] vars = nothing_made vars
all_made f cs (index ∷ rest) vars =
    let first = run_at f index (slice_get cs index) vars in
    and_then first (all_made f cs rest first.variables)
