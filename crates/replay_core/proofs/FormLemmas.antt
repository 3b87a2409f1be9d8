-- Trees are run as what they stand for.
use Rattle.std.proofs.Common.{◌≡◌, ℕ, List, [], ◌∷◌, map, max, Option, None, Some, refl, sym, ap}
use Rattle.std.proofs.Common.{◌∙◌}
use Rattle.d_types.specs.Clauses.{by_trees, run_by}
use Rattle.d_types.specs.Typed.{Print, action_of, actions_of, typed_argument, types_of}
use Rattle.replay_core.specs.Vocabulary.{effect_by, Variables, typeds_of, TypedExpr, TypedStmt}
use Rattle.replay_core.specs.Vocabulary.{Firing}
use Rattle.replay_core.specs.Bounds.{index_in, indices_among}
use Rattle.replay_core.specs.Forms.{by_expressions, expression_type, statement_form}
use Rattle.replay_core.specs.Steps.EffectRuns.{effect_then, ran_by, run_result, statements_by}
use Rattle.replay_core.specs.Steps.EffectRuns.{where_predicate}
use Rattle.d_types.specs.declared.typed.TypedStmt.TheVariants as s
use Rattle.replay_core.proofs.EffectRuns.{run_by_is}

index_same : (x : TypedStmt) → index_in (statement_form x) ≡ index_in (action_of x)
index_same (s.Evaluate e) = refl
index_same x = refl

pub indices_same : (all : List TypedStmt) → indices_among (map statement_form all) ≡ indices_among (actions_of all)
indices_same [] = refl
indices_same (x ∷ rest) =
    ap (λ n. max n (indices_among (map statement_form rest))) (index_same x)
    ∙ ap (λ n. max (index_in (action_of x)) n) (indices_same rest)

types_same : (all : List TypedExpr) → map expression_type all ≡ types_of (typeds_of all)
types_same [] = refl
types_same (e ∷ rest) = ap (λ l. expression_type e ∷ l) (types_same rest)

module _ (f : Firing) where
  effect_same : (x : TypedStmt) (vars : Variables) → effect_by (by_expressions f) (statement_form x) vars ≡ effect_by (by_trees f) (action_of x) vars
  effect_same (s.Print format arguments) vars =
      ap (λ types. effect_by (by_expressions f) (Print format.items types arguments.items) vars) (types_same arguments.items)
  effect_same (s.Aggregate index keys None) vars = refl
  effect_same x vars = refl

  statements_same : (all : List TypedStmt) (vars : Variables)
      → statements_by (by_expressions f) (map statement_form all) vars ≡ statements_by (by_trees f) (actions_of all) vars
  statements_same [] vars = refl
  statements_same (x ∷ rest) vars =
      ap (λ o. effect_then o (statements_by (by_expressions f) (map statement_form rest))) (effect_same x vars)
      ∙ ap (effect_then (effect_by (by_trees f) (action_of x) vars)) (λ i v. statements_same rest v i)

  pub run_same : (line : List ℕ) (predicate : Option TypedExpr) (all : List TypedStmt) (vars : Variables)
      → ran_by (by_expressions f) line predicate (map statement_form all) vars ≡ run_by (by_trees f) line (typed_argument predicate) (actions_of all) vars
  run_same line predicate all vars = same predicate ∙ sym (run_by_is (by_trees f) line (typed_argument predicate) (actions_of all) vars)
    where
      same : (p : Option TypedExpr) → ran_by (by_expressions f) line p (map statement_form all) vars ≡ ran_by (by_trees f) line (typed_argument p) (actions_of all) vars
      same None = ap (run_result line) (statements_same all vars)
      same (Some e) = ap (λ go. run_result line (where_predicate (by_expressions f) (Some e) go vars)) (λ i v. statements_same all v i)
