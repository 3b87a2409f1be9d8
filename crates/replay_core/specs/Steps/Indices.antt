-- Two rising lists of indices, merged.
use Rattle.std.specs.Prelude.{ℕ, nat_lt, if◌then◌else◌, List, [], ◌∷◌, ◌++◌}

-- ---- two lists of indices as one

-- the items at the front that are below an index, and what comes after them
abbrev pub front_below : ℕ → List ℕ → List ℕ
front_below index [] = []
front_below index (p ∷ ps) = if nat_lt p index then p ∷ front_below index ps else []

abbrev pub rest_from : ℕ → List ℕ → List ℕ
rest_from index [] = []
rest_from index (p ∷ ps) = if nat_lt p index then rest_from index ps else p ∷ ps

-- two lists that rise as one that rises
abbrev pub merge : List ℕ → List ℕ → List ℕ
merge [] more = more
merge (p ∷ ps) more = front_below p more ++ p ∷ merge ps (rest_from p more)
