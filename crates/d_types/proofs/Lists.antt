-- Lists of statements and clauses, with one more.
use Rattle.std.proofs.Common.{◌≡◌, List, [], ◌∷◌, ◌++◌, map, refl, ap}
use Rattle.d_types.specs.declared.typed.TypedStmt.{TypedStmt}
use Rattle.d_types.specs.declared.typed.TypedClause.{TypedClause}
use Rattle.d_types.specs.Typed.{Action, ClauseMeant, action_of, actions_of, meant_of}

pub actions_push : (xs : List TypedStmt) (x : TypedStmt) → actions_of (xs ++ x ∷ []) ≡ actions_of xs ++ action_of x ∷ []
actions_push [] x = refl
actions_push (y ∷ xs) x = ap (λ (ys : List Action). action_of y ∷ ys) (actions_push xs x)

pub clauses_push : (xs : List TypedClause) (x : TypedClause) → map meant_of (xs ++ x ∷ []) ≡ map meant_of xs ++ meant_of x ∷ []
clauses_push [] x = refl
clauses_push (y ∷ xs) x = ap (λ (ys : List ClauseMeant). meant_of y ∷ ys) (clauses_push xs x)
