-- What holds of every whole expression.
use Rattle.std.specs.Prelude.{List, [], ◌∷◌, Option, Some, None}
use Rattle.d_types.specs.Typed.{Typed, Typeds, end, more, Action, Evaluate, Trace, Print, Exit}
use Rattle.d_types.specs.Typed.{Aggregate, ClauseMeant}

abbrev pub EachIs : (Typed → Type 0) → Typeds → Type 0
EachIs Is end = Unit {0}
EachIs Is (more x rest) = Is x × EachIs Is rest

abbrev pub AnyIs : (Typed → Type 0) → Option Typed → Type 0
AnyIs Is None = Unit {0}
AnyIs Is (Some x) = Is x

abbrev pub ActionIs : (Typed → Type 0) → Action → Type 0
ActionIs Is (Evaluate x) = Is x
ActionIs Is (Trace t x) = Is x
ActionIs Is (Print format types args) = EachIs Is args
ActionIs Is (Exit x) = Is x
ActionIs Is (Aggregate index keys argument) = EachIs Is keys × AnyIs Is argument

abbrev pub ActionsAre : (Typed → Type 0) → List Action → Type 0
ActionsAre Is [] = Unit {0}
ActionsAre Is (a ∷ rest) = ActionIs Is a × ActionsAre Is rest

abbrev pub ClauseIs : (Typed → Type 0) → ClauseMeant → Type 0
ClauseIs Is c = AnyIs Is c.predicate × ActionsAre Is c.statements

abbrev pub ClausesAre : (Typed → Type 0) → List ClauseMeant → Type 0
ClausesAre Is [] = Unit {0}
ClausesAre Is (c ∷ rest) = ClauseIs Is c × ClausesAre Is rest
