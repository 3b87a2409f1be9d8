-- What the statements of a clause do one after the other, effect by effect, as a lane notes it.
use Rattle.std.specs.Prelude.{ℕ, zero, suc, List, [], ◌∷◌, Option, Some, None, Bool, true, false}
use Rattle.std.specs.Prelude.{if◌then◌else◌}
use Rattle.aggregations.specs.Table.{contribution}
use Rattle.replay_core.specs.Vocabulary.{ActionOf, Contribution, Effect, Evaluation, Faults, Has}
use Rattle.replay_core.specs.Vocabulary.{Made, Outcome, Variables, effect_by, number_outcome}

-- the effects of statements in order, whether a fault ended them, and the variables after them
pub record Ran : Type 0 where
  pub effects : List Effect
  pub faulted : Bool
  pub variables : Variables

abbrev pub run_with : List Effect → Bool → Variables → Ran
run_with effects faulted vars = record { effects = effects; faulted = faulted; variables = vars }

-- an effect, and then those of the statements after; or the fault, which ends them
abbrev pub effect_then : Outcome Effect → (Variables → Ran) → Ran
effect_then (Has effect vars) go =
    let rest = go vars in run_with (effect ∷ rest.effects) rest.faulted rest.variables
effect_then (Faults vars) go = run_with [] true vars

-- the statements if the word isn't 0
abbrev pub where_true : Outcome ℕ → (Variables → Ran) → Ran
where_true (Has zero vars) go = run_with [] false vars
where_true (Has (suc n) vars) go = go vars
where_true (Faults vars) go = run_with [] true vars

abbrev pub texts_in : List Effect → List (List ℕ)
texts_in [] = []
texts_in (Effect.Says text ∷ rest) = text ∷ texts_in rest
texts_in (_ ∷ rest) = texts_in rest

abbrev pub contributions_in : List Effect → List Contribution
contributions_in [] = []
contributions_in (Effect.Adds index key z ∷ rest) = contribution index key z ∷ contributions_in rest
contributions_in (_ ∷ rest) = contributions_in rest

abbrev pub exit_in : List Effect → Option ℕ
exit_in [] = None
exit_in (Effect.Exits status ∷ rest) = Some status
exit_in (_ ∷ rest) = exit_in rest

-- a fault's line takes the place of all texts
abbrev pub run_result : List ℕ → Ran → Made
run_result line all = record {
  texts = if all.faulted then line ∷ [] else texts_in all.effects;
  contributions = contributions_in all.effects;
  exit = exit_in all.effects;
  variables = all.variables;
}

module _ {E Es : Type 0} (by : Evaluation E Es) where
  -- the statements in order, up to the first that faults
  abbrev pub statements_by : List (ActionOf E Es) → Variables → Ran
  statements_by [] vars = run_with [] false vars
  statements_by (action ∷ rest) vars = effect_then (effect_by by action vars) (statements_by rest)

  -- the statements if the predicate isn't 0
  abbrev pub where_predicate : Option E → (Variables → Ran) → Variables → Ran
  where_predicate None go vars = go vars
  where_predicate (Some a) go vars = where_true (number_outcome (by.value a vars)) go

  -- what statements make after a predicate, if this line stands for a fault
  abbrev pub ran_by : List ℕ → Option E → List (ActionOf E Es) → Variables → Made
  ran_by line predicate statements vars =
      run_result line (where_predicate predicate (statements_by statements) vars)
