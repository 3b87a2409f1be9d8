-- How many contributions are made.
use Rattle.std.proofs.Common.{ℕ, zero, suc, ◌+◌, ◌*◌, ◌^◌, ◌≤◌, List, [], ◌∷◌, length, Option, Some}
use Rattle.std.proofs.Common.{None, arith, length-append}
use Rattle.std.proofs.Math.Nat.{add-mul, mul-add}
use Rattle.std.proofs.lemmas.Nat.{mul-le}
use Rattle.aggregations.specs.Table.{contribution}
use Rattle.d_parser.specs.Sizes.{in_all}
use Rattle.d_types.specs.declared.effect.Effect.{Effect}
use Rattle.d_types.specs.declared.effect.Effect.TheVariants as ef
use Rattle.d_types.specs.Typed.{ActionOf, ClauseMeant, ScriptMeant}
use Rattle.d_types.specs.Storage.{Variables}
use Rattle.d_types.specs.Expressions.{Outcome, Has, Faults, number_outcome, at_zero}
use Rattle.d_types.specs.Clauses.{Evaluation, Made, and_then, effect_by, effect_result, go_on}
use Rattle.d_types.specs.Clauses.{nothing_made, run_by, statements_made}
use Rattle.d_types.specs.Scripts.{IsMeant}
use Rattle.d_types.specs.Sizes.{description_count, statement_count, most_runs, HasAtMost}
use Rattle.d_types.proofs.Sizes.{typed_script_is_small}

-- one effect makes one contribution at most
one_more : (e : Effect) (vars : Variables) (before : Made) → length (and_then before (effect_result e vars)).contributions ≤ length before.contributions + 1
one_more ef.Nothing vars before = let long = length-append before.contributions [] in omega (arith, long)
one_more (ef.Says text) vars before = let long = length-append before.contributions [] in omega (arith, long)
one_more (ef.Exits status) vars before = let long = length-append before.contributions [] in omega (arith, long)
one_more (ef.Adds index key z) vars before = let long = length-append before.contributions (contribution index key z ∷ []) in omega (arith, long)

went_few : {A : Type 0} (n : ℕ) (line : List ℕ) (before : Made) (o : Outcome A) (go : A → Variables → Made)
    → length before.contributions ≤ n → ((x : A) (vars : Variables) → length (go x vars).contributions ≤ n) → length (go_on line before o go).contributions ≤ n
went_few n line before (Has x vars) go some few = few x vars
went_few n line before (Faults vars) go some few = some

module _ {E Es : Type 0} (by : Evaluation E Es) where
  statements_few : (line : List ℕ) (all : List (ActionOf E Es)) (before : Made) → length (statements_made by line all before).contributions ≤ length before.contributions + length all
  statements_few line [] before = omega arith
  statements_few line (a ∷ rest) before =
      went_few (length before.contributions + length (a ∷ rest)) line before (effect_by by a before.variables) _ (omega arith)
      (λ effect vars.
      let more = one_more effect vars before in
      let few = statements_few line rest (and_then before (effect_result effect vars)) in
      omega (arith, more, few))

  guarded_few : (word : ℕ) (vars : Variables) (made : Made) (n : ℕ) → length made.contributions ≤ n → length (at_zero word (nothing_made vars) made).contributions ≤ n
  guarded_few zero vars made n few = omega arith
  guarded_few (suc w) vars made n few = few

  -- whatever evaluates the expressions
  pub run_is_few : (line : List ℕ) (predicate : Option E) (all : List (ActionOf E Es)) (vars : Variables) → length (run_by by line predicate all vars).contributions ≤ length all
  run_is_few line None all vars = let few = statements_few line all (nothing_made vars) in omega (arith, few)
  run_is_few line (Some a) all vars =
      went_few (length all) line (nothing_made vars) (number_outcome (by.value a vars)) _ (omega arith)
      (λ word late.
      let few = statements_few line all (nothing_made late) in
      guarded_few word late (statements_made by line all (nothing_made late)) (length all) (omega (arith, few)))

-- each product is below that of the sums
products : (a b c d : ℕ) → a * b + c * d ≤ (a + c) * (b + d)
products a b c d = let e = add-mul a c (b + d) in let g = mul-add a b d in let h = mul-add c b d in omega (arith, e, g, h)

runs_below : (all : List ClauseMeant) → in_all most_runs all ≤ in_all description_count all * in_all statement_count all
runs_below [] = omega arith
runs_below (c ∷ rest) =
    let others = runs_below rest in
    let both = products (description_count c) (statement_count c) (in_all description_count rest) (in_all statement_count rest) in
    omega (arith, others, both)

runs_are_few : (m : ScriptMeant) → HasAtMost 65536 m → in_all most_runs m.clauses ≤ 2 ^ 32
runs_are_few m small =
    let product = mul-le (in_all description_count m.clauses) (in_all statement_count m.clauses) 65536 65536 small.few_descriptions small.few_statements in
    let below = runs_below m.clauses in
    omega (arith, product, below)

pub script_runs_few : (m : ScriptMeant) → ∥ IsMeant m ∥₁ → in_all most_runs m.clauses ≤ 2 ^ 32
script_runs_few m meant = runs_are_few m (typed_script_is_small m meant)
