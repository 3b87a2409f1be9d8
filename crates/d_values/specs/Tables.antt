-- A map from variables to what they hold.
use Rattle.std.specs.Prelude.{List, [], ◌∷◌, Option, None, Some, map}
use Rattle.d_values.specs.Vocabulary.{Value, Var}
use Rattle.d_values.specs.declared.held.Held.{Held}
use Rattle.d_values.specs.Stores.{Elements, Own}

-- a value without a key, and elements under keys
abbrev pub with_scalar : Option Value → Elements → Elements
with_scalar None elements = elements
with_scalar (Some value) elements = ([], value) ∷ elements

-- all that a variable holds
abbrev pub elements_of : Held → Elements
elements_of held = with_scalar held.scalar held.elements.entries

-- each variable with what it holds
abbrev pub pairs_of : List (Var × Held) → Own
pairs_of variables = map (λ p. (p.0, elements_of p.1)) variables
