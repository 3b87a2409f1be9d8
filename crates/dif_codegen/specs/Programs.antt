-- Compiled clauses, as values, and what clauses are compiled to.
use Rattle.std.specs.Prelude.{List, map, Option}
use Rattle.d_types.specs.Typed.{ActionOf, Evaluate, Trace, Print, Exit, Aggregate}
use Rattle.dif_codegen.specs.Vocabulary.{Description, Action, CompiledClause, TypedObject}

-- a statement with an object in place of each expression
abbrev pub ActionCode : Type 0
ActionCode = ActionOf TypedObject (List TypedObject)

pub record ClauseCode : Type 0 where
  pub descriptions : List Description
  pub predicate : Option TypedObject
  pub actions : List ActionCode

-- ---- compiled clauses

abbrev pub action_code : Action → ActionCode
action_code (Action.Plain x) = Evaluate x
action_code (Action.Trace x) = Trace x.returns x
action_code (Action.Printf format arguments) =
    Print format.items (map (λ x. x.returns) arguments.items) arguments.items
action_code (Action.Exit x) = Exit x
action_code (Action.Aggregate index keys argument) = Aggregate index keys.items argument

abbrev pub clause_code : CompiledClause → ClauseCode
clause_code c = record {
  descriptions = c.descriptions.items;
  predicate = c.predicate;
  actions = map action_code c.actions.items;
}
