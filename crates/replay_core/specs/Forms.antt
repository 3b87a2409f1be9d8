-- Expressions and statements in the form in which an engine runs them: here trees.
use Rattle.std.specs.Prelude.{List, map}
use Rattle.d_types.specs.Typed.{ActionOf, Evaluate, Trace, Print, Exit, Aggregate, type_of}
use Rattle.d_types.specs.Typed.{typed_of, typeds_of}
use Rattle.replay_core.specs.Vocabulary.{Evaluation, Firing, TypedExpr, TypedStmt, eval, keys_of}
use Rattle.replay_core.specs.Vocabulary.{DType, values_of}

-- trees are evaluated as what they stand for
abbrev pub by_expressions : Firing → Evaluation TypedExpr (List TypedExpr)
by_expressions f = record {
  value = λ e. eval f (typed_of e);
  values = λ types all. values_of f types (typeds_of all);
  key = λ all. keys_of f (typeds_of all);
}

-- the type of its value
abbrev pub expression_type : TypedExpr → DType
expression_type e = type_of (typed_of e)

abbrev pub statement_form : TypedStmt → ActionOf TypedExpr (List TypedExpr)
statement_form (TypedStmt.Evaluate e) = Evaluate e
statement_form (TypedStmt.Trace e) = Trace (expression_type e) e
statement_form (TypedStmt.Print format arguments) =
    Print format.items (map expression_type arguments.items) arguments.items
statement_form (TypedStmt.Exit e) = Exit e
statement_form (TypedStmt.Aggregate index keys argument) = Aggregate index keys.items argument
