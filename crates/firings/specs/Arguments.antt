-- Arguments of a firing.
use Rattle.std.specs.Prelude.{ℤ, pos, List, [], ◌∷◌, get_or}

-- ten numbers: the first of these, and zeros after them
abbrev pub ten : List ℤ → List ℤ
ten xs = get_or xs 0 (pos 0) ∷ get_or xs 1 (pos 0) ∷ get_or xs 2 (pos 0) ∷ get_or xs 3 (pos 0)
    ∷ get_or xs 4 (pos 0) ∷ get_or xs 5 (pos 0) ∷ get_or xs 6 (pos 0) ∷ get_or xs 7 (pos 0)
    ∷ get_or xs 8 (pos 0) ∷ get_or xs 9 (pos 0) ∷ []
