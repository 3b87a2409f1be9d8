-- What a change does to the entries of one aggregation.
use Rattle.std.specs.Prelude.{◌≡◌, ◌+◌, ◌≤◌, ⊤, false, List, [], ◌∷◌, ◌++◌, ℤ, Option, Some, Result}
use Rattle.std.specs.Prelude.{OnErr, OnOk}
use Rattle.std.specs.declared.alloc.AllocError.{AllocError}
use Rattle.aggregations.specs.Vocabulary.{AggFn, KeyPart, same_key}
use Rattle.aggregations.specs.declared.held.Held.{Held}
use Rattle.aggregations.specs.Table.{Aggregation, IsEntry, count_of, entry_at}
use Rattle.aggregations.specs.Values.{count_in}

-- whatever arguments the old entry and the other are made of, the new one is made of both
abbrev pub Joins : AggFn → (old other new : Option Held) → Type 0
Joins function old other new = (xs ys : List ℤ)
    → IsEntry function old xs → IsEntry function other ys → IsEntry function new (xs ++ ys)

-- whatever arguments the old entry is made of, the new one is made of those and one more
abbrev pub Notes : AggFn → Option Held → ℤ → Option Held → Type 0
Notes function old arg new = (args : List ℤ)
    → IsEntry function old args → IsEntry function new (args ++ arg ∷ [])

-- the key has what P says, and each other key what it had
pub record Puts (old new : Aggregation) (key : List KeyPart) (P : Option Held → Type 0)
    : Type 0 where
  pub here : P (entry_at key new)
  pub others : (other : List KeyPart) → same_key key other ≡ false
      → entry_at other new ≡ entry_at other old

-- the argument went to the key's entry, and all else stayed
abbrev pub TakesArgument : (old new : Aggregation) → List KeyPart → ℤ → Type 0
TakesArgument old new key arg = Puts old new key (Notes old.function (entry_at key old) arg)

-- the other's entry for each key went to the key's entry
abbrev pub TakesAll : (old other new : Aggregation) → Type 0
TakesAll old other new = (key : List KeyPart)
    → Joins old.function (entry_at key old) (entry_at key other) (entry_at key new)

-- ---- what a call that changes entries returns. The function stays, whatever it returns

-- one argument more for the key, or memory was refused, and nothing changed
pub record Adds (old new : Aggregation) (key : List KeyPart) (arg : ℤ) (r : Result ⊤ AllocError)
    : Type 0 where
  pub function : new.function ≡ old.function
  pub ok : OnOk r (TakesArgument old new key arg)
  pub count : count_of new ≤ count_of old + 1
  pub err : OnErr r (new ≡ old)

-- the arguments of one more entry for the key
pub record Takes (old new : Aggregation) (key : List KeyPart) (more : Held)
    (r : Result ⊤ AllocError) : Type 0 where
  pub function : new.function ≡ old.function
  pub ok : OnOk r (Puts old new key (Joins old.function (entry_at key old) (Some more)))
  pub count : count_of new ≤ count_of old + count_in more

-- the arguments of all entries of another aggregation too
pub record Merges (old other new : Aggregation) (r : Result ⊤ AllocError) : Type 0 where
  pub function : new.function ≡ old.function
  pub ok : OnOk r (TakesAll old other new)
  pub count : count_of new ≤ count_of old + count_of other
