-- What values are of lists of arguments, and which contributions are of a key, as lemmas speak of them.
use Rattle.std.specs.Prelude.{◌≡◌, ℕ, ◌==◌, ◌&&◌, Bool, ℤ, ◌≤ℤ◌, List, All, Contains}
use Rattle.std.specs.Int.{int_wrap, w64}
use Rattle.aggregations.specs.Vocabulary.{KeyPart, same_key}
use Rattle.aggregations.specs.{Table.Contribution, Values.total}

abbrev pub IsSum : ℤ → List ℤ → Type 0
IsSum s args = s ≡ int_wrap w64 (total args)

abbrev pub IsLeast : ℤ → List ℤ → Type 0
IsLeast m args = Contains args m × All (λ x. m ≤ℤ x) args

abbrev pub IsGreatest : ℤ → List ℤ → Type 0
IsGreatest m args = Contains args m × All (λ x. x ≤ℤ m) args

abbrev pub is_for : ℕ → List KeyPart → Contribution → Bool
is_for agg key c = (c.agg == agg) && same_key c.key key
