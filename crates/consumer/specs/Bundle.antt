-- A bundle: a script, a dividing line, and a trace.
use Rattle.std.specs.Prelude.{◌≡◌, ◌≢◌, ◌⊎◌, ℕ, List, [], ◌∷◌, ◌++◌, All, codes}

-- bytes within one line
abbrev pub IsLine : List ℕ → Type 0
IsLine bytes = All (λ b. b ≢ 10) bytes

-- the line that divides, perhaps with a carriage return
abbrev pub IsDivider : List ℕ → Type 0
IsDivider line = (line ≡ codes "---") ⊎ (line ≡ codes "---\r")

-- the first dividing line parts the bundle; without one all of it is the script
pub data Divides : (bundle script trace : List ℕ) → Type 0 where
  before : (line rest script trace : List ℕ) → IsLine line → ¬ IsDivider line
      → Divides rest script trace → Divides (line ++ 10 ∷ rest) (line ++ 10 ∷ script) trace
  divider : (line trace : List ℕ) → IsDivider line → Divides (line ++ 10 ∷ trace) [] trace
  last_divider : (line : List ℕ) → IsDivider line → Divides line [] []
  last_line : (line : List ℕ) → IsLine line → ¬ IsDivider line → Divides line line []
