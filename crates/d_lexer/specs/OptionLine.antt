-- Option lines.
-- Source: Dynamic Tracing Guide, "Options and Tunables".
use Rattle.std.specs.Prelude.{◌≡◌, ℕ, Bool, true, ◌||◌, ◌==◌, List, [], ◌∷◌, ◌++◌, codes}
use Rattle.std.specs.{List.AllByRecursion, Str.byte}
use Rattle.d_lexer.specs.Bytes.{is_space}

-- a space, a tab or a carriage return
abbrev pub is_trailing : ℕ → Bool
is_trailing b = is_space b || b == byte "\r"

-- ---- the relation

-- a space or a tab at least, and nothing else
abbrev pub AreSpaces : List ℕ → Type 0
AreSpaces [] = ⊥
AreSpaces (b ∷ bs) = AllByRecursion (λ c. is_space c ≡ true) (b ∷ bs)

-- a line's bytes from its # on: four words with spaces between them, and then perhaps spaces and
-- carriage returns
abbrev pub IsOptionLine : List ℕ → Type 0
IsOptionLine own =
    (a : List ℕ) × (b : List ℕ) × (c : List ℕ) × (end : List ℕ) × AreSpaces a × AreSpaces b
    × AreSpaces c × AllByRecursion (λ d. is_trailing d ≡ true) end
    × (own ≡ codes "#pragma" ++ a ++ codes "D" ++ b ++ codes "option" ++ c ++ codes "quiet" ++ end)
