-- What a clause makes is what its effects make, one after the other.
use Rattle.std.proofs.Common.{◌≡◌, ℕ, zero, suc, List, [], ◌∷◌, ◌++◌, Option, None, Some}
use Rattle.std.proofs.Common.{if◌then◌else◌, refl, ap, ◌∙◌, append_assoc}
use Rattle.d_types.specs.Clauses.{effect_result, go_on, run_by, statements_made}
use Rattle.d_types.specs.Expressions.{at_zero}
use Rattle.replay_core.specs.Vocabulary.{option_or, Effect, Evaluation, Made, and_then, effect_by}
use Rattle.replay_core.specs.Vocabulary.{nothing_made, Outcome, Has, Faults, number_outcome}
use Rattle.replay_core.specs.Vocabulary.{Variables, ActionOf}
use Rattle.replay_core.specs.Steps.EffectRuns.{Ran, contributions_in, effect_then, exit_in, ran_by}
use Rattle.replay_core.specs.Steps.EffectRuns.{run_result, statements_by, texts_in, where_true}
use Rattle.d_types.specs.declared.effect.Effect.TheVariants as ef
use Rattle.replay_core.proofs.EffectLemmas.{made_of}
use Rattle.replay_core.proofs.Noting.{append_nil, or_none}
use Rattle.replay_core.proofs.RunLemmas.{exit_first}

-- what effects make after what was made before them; a fault's line takes the place of all texts
abbrev made_after : List ℕ → Made → Ran → Made
made_after line before ran = record {
  texts = if ran.faulted then line ∷ [] else before.texts ++ texts_in ran.effects;
  contributions = before.contributions ++ contributions_in ran.effects;
  exit = option_or before.exit (exit_in ran.effects);
  variables = ran.variables;
}

nothing_after : (before : Made) (texts : List (List ℕ)) (vars : Variables)
    → made_of texts before.contributions before.exit vars ≡ made_of texts (before.contributions ++ []) (option_or before.exit None) vars
nothing_after before texts vars = let contributions = append_nil before.contributions in let exit = or_none before.exit in cc

-- one more before the others
joined : (line : List ℕ) (before one : Made) (ran : Ran) →
    made_after line (and_then before one) ran
    ≡ made_of (if ran.faulted then line ∷ [] else before.texts ++ (one.texts ++ texts_in ran.effects)) (before.contributions ++ (one.contributions ++ contributions_in ran.effects))
    (option_or before.exit (option_or one.exit (exit_in ran.effects))) ran.variables
joined line before one ran =
    let texts = append_assoc before.texts one.texts (texts_in ran.effects) in
    let contributions = append_assoc before.contributions one.contributions (contributions_in ran.effects) in
    let exit = exit_first before.exit one.exit (exit_in ran.effects) in cc

-- a statement, and then those after it
one_then : (line : List ℕ) (before : Made) (o : Outcome Effect) (go : Made → Made) (ran : Variables → Ran)
    → ((next : Made) → go next ≡ made_after line next (ran next.variables))
    → go_on line before o (λ effect vars. go (and_then before (effect_result effect vars))) ≡ made_after line before (effect_then o ran)
one_then line before (Faults vars) go ran rest = nothing_after before (line ∷ []) vars
one_then line before (Has ef.Nothing vars) go ran rest =
    rest (and_then before (effect_result ef.Nothing vars)) ∙ joined line before (effect_result ef.Nothing vars) (ran vars)
one_then line before (Has effect vars) go ran rest = rest (and_then before (effect_result effect vars)) ∙ joined line before (effect_result effect vars) (ran vars)

module _ {E Es : Type 0} (by : Evaluation E Es) (line : List ℕ) where
  statements_are : (all : List (ActionOf E Es)) (before : Made) → statements_made by line all before ≡ made_after line before (statements_by by all before.variables)
  statements_are [] before =
      ap (λ t. made_of t before.contributions before.exit before.variables) (append_nil before.texts)
      ∙ nothing_after before (before.texts ++ []) before.variables
  statements_are (a ∷ rest) before =
      one_then line before (effect_by by a before.variables) (statements_made by line rest) (statements_by by rest) (statements_are rest)

  guarded : (all : List (ActionOf E Es)) (vars : Variables) (o : Outcome ℕ)
      → go_on line (nothing_made vars) o (λ word vars. at_zero word (nothing_made vars) (statements_made by line all (nothing_made vars))) ≡ run_result line (where_true o (statements_by by all))
  guarded all vars (Has zero late) = refl
  guarded all vars (Has (suc n) late) = statements_are all (nothing_made late)
  guarded all vars (Faults late) = refl

  pub run_by_is : (predicate : Option E) (all : List (ActionOf E Es)) (vars : Variables) → run_by by line predicate all vars ≡ ran_by by line predicate all vars
  run_by_is None all vars = statements_are all (nothing_made vars)
  run_by_is (Some a) all vars = guarded all vars (number_outcome (by.value a vars))
