-- Rows that waited in pieces, and are added to the firings before them.
use Rattle.std.specs.Prelude.{◌≡◌, ℕ, List, [], ◌∷◌, ◌++◌, Result, MatchResult}
use Rattle.firings.specs.declared.firing.Firing.{Firing}
use Rattle.firing_reader.specs.Vocabulary.{TraceFault}
use Rattle.firing_reader.specs.Blocks.{BeginsAtFeed}
use Rattle.firing_reader.specs.{Pieces.GoesOn, Plain.rows_in}
use Rattle.firing_reader.specs.Steps.Blocks.{IsFaultOf}

-- the rows that waited are among the new firings, but for what still waits
abbrev pub Adds : List Firing → List ℕ → List Firing → List ℕ → Type 0
Adds old [] new rest = (new ≡ old) × (rest ≡ [])
Adds old (b ∷ bytes) new rest = GoesOn old (b ∷ bytes) new rest × BeginsAtFeed rest

-- they were added, or this is their fault
abbrev pub IsAdded : Result (Unit {0}) TraceFault → List Firing → List ℕ → List Firing → List ℕ
    → Type 0
IsAdded result old bytes new rest = MatchResult result (λ _. Adds old bytes new rest)
    (λ e. IsFaultOf e (λ tail. rows_in old (bytes ++ tail)))
