-- What a table of aggregations stands for: a list of contributions.
-- Source: Dynamic Tracing Guide, "Aggregations".
use Rattle.std.specs.Prelude.{◌≡◌, ◌≢◌, ◌≤◌, ◌+◌, ℕ, ◌==◌, ◌&&◌, ⊤, ℤ, Option, None, Some, Result}
use Rattle.std.specs.Prelude.{List, [], ◌∷◌, ◌++◌, OnErr, OnOk, filter, map, slice_get, sum_by}
use Rattle.std.specs.{List.IsDistinct, Map.keys_of, Map.values_of, Map.lookup}
use Rattle.aggregations.specs.Vocabulary.{AggFn, KeyPart, same_key}
use Rattle.aggregations.specs.declared.held.Held.{Held}
use Rattle.aggregations.specs.declared.word_key.WordKey.{WordKey}
use Rattle.aggregations.specs.Values.{IsValue, count_in}
use Rattle.numbered.specs.Words.{key_in}

-- one argument, for a key of an aggregation
pub record Contribution : Type 0 where
  pub agg : ℕ
  pub key : List KeyPart
  pub arg : ℤ

-- a contribution by its parts
abbrev pub contribution : ℕ → List KeyPart → ℤ → Contribution
contribution agg key arg = record { agg = agg; key = key; arg = arg }

-- an aggregation as contracts see it. A table is seen as the list of its aggregations
pub record Aggregation : Type 0 where
  pub function : AggFn
  pub entries : List (List KeyPart × Held)

-- the functions of a table's aggregations
abbrev pub functions_of : List Aggregation → List AggFn
functions_of table = map (λ a. a.function) table

-- the sum of the counts in the entries of an aggregation
abbrev pub count_of : Aggregation → ℕ
count_of a = sum_by count_in (values_of a.entries)

-- what a table holds: the sum of the counts in all its entries
abbrev pub count_held : List Aggregation → ℕ
count_held table = sum_by count_of table

-- the arguments that the contributions give to a key of an aggregation, in order
abbrev pub arguments_of : ℕ → List KeyPart → List Contribution → List ℤ
arguments_of agg key contributions =
    map (λ c. c.arg) (filter (λ c. (c.agg == agg) && same_key c.key key) contributions)

-- what an aggregation has at the key
abbrev pub entry_at : List KeyPart → Aggregation → Option Held
entry_at key a = lookup (same_key key) a.entries

-- an entry is there exactly if there are arguments, and its value is theirs
abbrev pub IsEntry : AggFn → Option Held → List ℤ → Type 0
IsEntry function None args = args ≡ []
IsEntry function (Some held) args = (args ≢ []) × IsValue function held args

-- what the aggregation has at the key is made of the arguments. For no aggregation there are none
abbrev pub HasEntry : Option Aggregation → List KeyPart → List ℤ → Type 0
HasEntry None key args = args ≡ []
HasEntry (Some a) key args = IsEntry a.function (entry_at key a) args

-- each entry is the value of the contributions' arguments for its key
abbrev pub StandsFor : List Aggregation → List Contribution → Type 0
StandsFor table contributions =
    (agg : ℕ) (key : List KeyPart)
    → HasEntry (slice_get table agg) key (arguments_of agg key contributions)

-- one argument went to a key of an aggregation, or memory was refused, and nothing changed
pub record Contributes (old new : List Aggregation) (agg : ℕ) (key : List KeyPart) (arg : ℤ)
    {E : Type 0} (r : Result ⊤ E) : Type 0 where
  pub functions : functions_of new ≡ functions_of old
  pub ok : OnOk r ((contributions : List Contribution) → StandsFor old contributions
      → StandsFor new (contributions ++ contribution agg key arg ∷ []))
  pub held : count_held new ≤ count_held old + 1
  pub err : OnErr r (new ≡ old)

-- the key that words make
abbrev pub key_made : WordKey → List KeyPart
key_made made = key_in made.texts.now made.words.now

-- the entries that the contributions give an aggregation, in any order
pub record AreEntries (function : AggFn) (agg : ℕ) (contributions : List Contribution)
    (entries : List (List KeyPart × Held)) : Type 0 where
  -- each key once
  pub once : IsDistinct same_key (keys_of entries)
  pub values : (key : List KeyPart)
      → IsEntry function (lookup (same_key key) entries) (arguments_of agg key contributions)

-- the same items, in some order: each way to weigh them gives both one sum
abbrev pub SameItems : {A : Type 0} → List A → List A → Type 0
SameItems {A} xs ys = (weight : A → ℕ) → sum_by weight xs ≡ sum_by weight ys
