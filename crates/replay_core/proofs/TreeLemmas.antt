-- What each typed script keeps is what a lane asks for.
use Rattle.std.proofs.Common.{◌≡◌, ℕ, zero, suc, ◌+◌, ◌<◌, ◌≤◌, List, [], ◌∷◌, All, Option, length}
use Rattle.std.proofs.Common.{map, sum_by, refl, ap, ◌∙◌, arith, get_or}
use Rattle.std.proofs.lemmas.List.{length-map}
use Rattle.std.proofs.lemmas.List.Sums.{sum_by-cons}
use Rattle.d_parser.specs.Sizes.{in_all}
use Rattle.d_types.specs.declared.typed.TypedAggregation.{TypedAggregation}
use Rattle.d_types.specs.declared.typed.TypedClause.{TypedClause}
use Rattle.d_types.specs.Proper.{IsProperAction}
use Rattle.d_types.specs.Scripts.{IsMeant}
use Rattle.d_types.specs.Sizes.{description_count}
use Rattle.d_types.specs.Typed.{Action, Aggregate, Aggs, agg_of, script_meant}
use Rattle.d_types.proofs.ConsistentScripts.{script_is_consistent}
use Rattle.d_types.proofs.HoldingRuns.{run_kept}
use Rattle.d_types.proofs.Proper.{script_is_proper}
use Rattle.d_types.proofs.Sizes.{typed_script_is_small}
use Rattle.replay_core.specs.Vocabulary.{AllZip, DType, statement_count, ScriptMeant, meant_of}
use Rattle.replay_core.specs.Vocabulary.{slots_of, functions_in}
use Rattle.replay_core.specs.Bounds.{index_in, indices_among, indices_in}
use Rattle.replay_core.specs.Scripts.{Keeps}
use Rattle.replay_core.proofs.GroupSums.{all_mapped}

index_below : (aggs : Aggs) (a : Action) → IsProperAction aggs a → index_in a ≤ length aggs
index_below aggs (Aggregate index keys argument) is = omega (arith, is.0)
index_below aggs a is = omega arith

indices_below : (aggs : Aggs) (all : List Action) → All (IsProperAction aggs) all → indices_among all ≤ length aggs
indices_below aggs [] are = omega arith
indices_below aggs (a ∷ rest) are =
    let first = index_below aggs a (are 0 a (omega arith)) in
    let others = indices_below aggs rest (λ k d lt. are (suc k) d (omega arith)) in
    omega (arith, first, others)

pub one_of_all : {A : Type 0} (h : A → ℕ) (xs : List A) (k : ℕ) (d : A) → k < length xs → h (get_or xs k d) ≤ in_all h xs
one_of_all h [] k d lt = absurd (omega arith)
one_of_all h (x ∷ xs) zero d lt = omega arith
one_of_all h (x ∷ xs) (suc k) d lt = let less = one_of_all h xs k d (omega arith) in omega arith

pub script_named : (m : ScriptMeant) → ∥ IsMeant m ∥₁ → All (λ c. indices_in c ≤ length m.aggregations) m.clauses
script_named m typed k d lt = indices_below m.aggregations (get_or m.clauses k d).statements (script_is_proper m typed k d lt).statements

-- the sum, by recursion from the front
total : (cs : List TypedClause) → sum_by (λ c. length c.descriptions.items) cs ≡ in_all description_count (map meant_of cs)
total [] = refl
total (c ∷ cs) = sum_by-cons (λ (c : TypedClause). length c.descriptions.items) c cs ∙ ap (λ n. length c.descriptions.items + n) (total cs)

pub clauses_few : (m : ScriptMeant) → ∥ IsMeant m ∥₁ → All (λ c. statement_count c ≤ 65536) m.clauses
clauses_few m typed k d lt =
    let small = (typed_script_is_small m typed).few_statements in
    let one = one_of_all statement_count m.clauses k d lt in
    omega (arith, small, one)

module _ (clauses : List TypedClause) (aggs : List TypedAggregation) (slots : List (Option DType)) (typed : ∥ IsMeant (script_meant clauses aggs slots) ∥₁) where
  pub all_named : All (λ c. indices_in (meant_of c) ≤ length aggs) clauses
  all_named k d lt =
      let m = script_meant clauses aggs slots in
      let below = all_mapped (λ c. indices_in c ≤ length m.aggregations) meant_of clauses (script_named m typed) k d lt in
      let few = length-map aggs agg_of in
      omega (arith, below, few)

  pub all_few : All (λ c. statement_count (meant_of c) ≤ 65536) clauses
  all_few = all_mapped (λ c. statement_count c ≤ 65536) meant_of clauses (clauses_few (script_meant clauses aggs slots) typed)

  pub few_probes : sum_by (λ c. length c.descriptions.items) clauses ≤ 65536
  few_probes =
      let small = (typed_script_is_small (script_meant clauses aggs slots) typed).few_descriptions in
      let same = total clauses in
      omega (arith, small, same)

pub trees_mean : (cs : List TypedClause) → AllZip (λ c meant. meant ≡ meant_of c) cs (map meant_of cs)
trees_mean [] = tt
trees_mean (c ∷ cs) = (refl, trees_mean cs)

pub functions_same : (clauses : List TypedClause) (aggs : List TypedAggregation) (slots : List (Option DType)) → map (λ a. a.function) aggs ≡ functions_in (script_meant clauses aggs slots)
functions_same clauses [] slots = refl
functions_same clauses (a ∷ aggs) slots = ap (λ l. a.function ∷ l) (functions_same clauses aggs slots)

-- ---- types

pub script_keeps : (m : ScriptMeant) → ∥ IsMeant m ∥₁ → All (Keeps (slots_of m)) m.clauses
script_keeps m meant k d lt f index vars fit typed = run_kept (slots_of m) f fit index (get_or m.clauses k d) vars (script_is_consistent m meant k d lt) typed
