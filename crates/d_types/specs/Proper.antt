-- What statements ask of their expressions, whatever the types of the script's variables: kinds,
-- indices and counts.
use Rattle.std.specs.Prelude.{◌≡◌, ◌<◌, ◌≤◌, true, length, slice_get, All, Option, Some, None}
use Rattle.d_types.specs.Vocabulary.{AggFn, MAX_KEYS}
use Rattle.d_types.specs.Variables.{kinds_of_typed}
use Rattle.d_types.specs.Formats as formats
use Rattle.d_types.specs.Typed.{Typed, Typeds, type_of, Action, Evaluate, Trace, Print, Exit}
use Rattle.d_types.specs.Typed.{Aggregate, Agg, Aggs, ClauseMeant, ScriptMeant}
use Rattle.d_types.specs.{Needs.count, Held.IsSomeInteger}

-- count() takes nothing, and each other function an integer
abbrev pub HasArgument : AggFn → Option Typed → Type 0
HasArgument AggFn.Count None = Unit {0}
HasArgument AggFn.Count (Some x) = ⊥
HasArgument function None = ⊥
HasArgument function (Some x) = IsSomeInteger (type_of x)

-- keys of the aggregation's kinds, at most 8 of them, and what its function takes
abbrev pub Suits : Option Agg → Typeds → Option Typed → Type 0
Suits None keys argument = ⊥
Suits (Some a) keys argument =
    (a.keys ≡ kinds_of_typed keys) × (count keys ≤ MAX_KEYS)
    × HasArgument a.function argument

-- each part is of the kind that its place asks for, and an aggregation is one of the script's
abbrev pub IsProperAction : Aggs → Action → Type 0
IsProperAction aggs (Evaluate x) = Unit {0}
IsProperAction aggs (Trace t x) = Unit {0}
IsProperAction aggs (Print format types args) = formats.fit format args ≡ true
IsProperAction aggs (Exit x) = IsSomeInteger (type_of x)
IsProperAction aggs (Aggregate index keys argument) =
    (index < length aggs) × Suits (slice_get aggs index) keys argument

abbrev pub IsProperPredicate : Option Typed → Type 0
IsProperPredicate None = Unit {0}
IsProperPredicate (Some x) = IsSomeInteger (type_of x)

pub record IsProperClause (aggs : Aggs) (c : ClauseMeant) : Type 0 where
  pub predicate : IsProperPredicate c.predicate
  pub statements : All (IsProperAction aggs) c.statements

abbrev pub IsProperScript : ScriptMeant → Type 0
IsProperScript m = All (IsProperClause m.aggregations) m.clauses
