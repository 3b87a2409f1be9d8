-- Statements of typed trees and of what they mean exit alike.
use Rattle.std.specs.List.{list_any}
use Rattle.std.specs.Prelude.{◌≡◌, ◌||◌, List, [], ◌∷◌, Option, map}
use Rattle.std.proofs.Common.{refl, ap, ◌∙◌}
use Rattle.d_values.specs.declared.int_type.DType.{DType}
use Rattle.d_types.specs.declared.typed.TypedAggregation.{TypedAggregation}
use Rattle.d_types.specs.declared.typed.TypedClause.{TypedClause}
use Rattle.d_types.specs.declared.typed.TypedStmt.{TypedStmt}
use Rattle.d_types.specs.Typed.{action_of, actions_of, has_exit, is_exit, meant_of, script_meant}

statements_alike : (all : List TypedStmt) → list_any (λ s. is_exit (action_of s)) all ≡ list_any (λ a. is_exit a) (actions_of all)
statements_alike [] = refl
statements_alike (s ∷ rest) = ap (λ b. is_exit (action_of s) || b) (statements_alike rest)

clauses_alike : (all : List TypedClause) → list_any (λ c. list_any (λ s. is_exit (action_of s)) c.statements.items) all ≡ list_any (λ c. list_any (λ a. is_exit a) c.statements) (map meant_of all)
clauses_alike [] = refl
clauses_alike (c ∷ rest) =
    ap (λ b. b || list_any (λ c. list_any (λ s. is_exit (action_of s)) c.statements.items) rest) (statements_alike c.statements.items)
    ∙ ap (λ b. list_any (λ a. is_exit a) (actions_of c.statements.items) || b) (clauses_alike rest)

pub exits_alike : (clauses : List TypedClause) (aggregations : List TypedAggregation) (slots : List (Option DType))
    → list_any (λ c. list_any (λ s. is_exit (action_of s)) c.statements.items) clauses ≡ has_exit (script_meant clauses aggregations slots)
exits_alike clauses aggregations slots = clauses_alike clauses
