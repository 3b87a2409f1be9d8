-- What one argument more, and another entry's arguments, make of an entry.
use Rattle.std.specs.Prelude.{ℤ, List, [], ◌∷◌, ◌++◌}
use Rattle.aggregations.specs.Vocabulary.{AggFn}
use Rattle.aggregations.specs.declared.held.Held.{Held}
use Rattle.aggregations.specs.Values.{IsValue}

-- whatever old is made of, new is made of that and one more
abbrev pub TakesOne : (old : Held) → ℤ → (new : Held) → Type 0
TakesOne old arg new = (function : AggFn) (args : List ℤ)
    → IsValue function old args → IsValue function new (args ++ arg ∷ [])

-- whatever old and other are made of, new is made of both
abbrev pub TakesBoth : (old other new : Held) → Type 0
TakesBoth old other new = (function : AggFn) (xs ys : List ℤ)
    → IsValue function old xs → IsValue function other ys → IsValue function new (xs ++ ys)
