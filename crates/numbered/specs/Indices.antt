-- Entries by their index.
use Rattle.std.specs.Prelude.{◌≡◌, ℕ, Bool, List, Option, None, Some, MatchOption, slice_get}
use Rattle.std.specs.Map.{lookup}

-- the key's entry is at this index, and a look-up finds it
pub record IsAt {K V : Type 0} (same : K → K → Bool) (entries : List (K × V)) (i : ℕ) (key : K)
    : Type 0 where
  pub held : V
  pub entry : slice_get entries i ≡ Some (key, held)
  pub found : lookup (same key) entries ≡ Some held

-- the index of the key's entry, if it has one
abbrev pub IsFound : {K V : Type 0} → (K → K → Bool) → List (K × V) → K → Option ℕ → Type 0
IsFound same entries key result =
    MatchOption result (lookup (same key) entries ≡ None) (λ i. IsAt same entries i key)
