-- What parts of a clause do, by typed trees.
use Rattle.std.specs.Prelude.{Option, ℤ}
use Rattle.firings.specs.declared.firing.Firing.{Firing}
use Rattle.d_types.specs.declared.effect.Effect.{Effect}
use Rattle.d_types.specs.Typed.{Typed, Action}
use Rattle.d_types.specs.Storage.{Variables}
use Rattle.d_types.specs.Expressions.{Outcome}
use Rattle.d_types.specs.Clauses.{argument_by, effect_by, by_trees}

abbrev pub argument_value : Firing → Option Typed → Variables → Outcome ℤ
argument_value f = argument_by (by_trees f)

abbrev pub effect_of : Firing → Action → Variables → Outcome Effect
effect_of f = effect_by (by_trees f)
