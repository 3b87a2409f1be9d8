-- What a run of valid code comes to.
use Rattle.std.specs.Prelude.{◌≡◌, ◌≤◌, ℕ, zero, suc, length, Result, Ok, Err}
use Rattle.std.proofs.Common.{refl, sym, subst, ap, ◌∙◌, arith}
use Rattle.d_values.specs.declared.value.Value.{Value}
use Rattle.firings.specs.declared.firing.Firing.{Firing}
use Rattle.d_types.specs.Expressions.{Outcome, Has, Faults}
use Rattle.d_types.specs.Storage.{Variables}
use Rattle.dif_validate.specs.Objects.{Object}
use Rattle.dif_validate.specs.Validity.{IsValid}
use Rattle.dif_machine.specs.declared.fault.MachineFault.{MachineFault}
use Rattle.dif_machine.specs.declared.fault.MachineFault.TheVariants.{DivideByZero, Memory}
use Rattle.dif_machine.specs.Frames.{Frame}
use Rattle.dif_machine.specs.Frames.{start}
use Rattle.dif_machine.specs.Runs.{End, Returns, Divides, Reaches, ends, faults, goes, RunEnds}
use Rattle.dif_machine.specs.Runs.{Runs, steps}
use Rattle.dif_machine.proofs.Ending.{is_over, one_end}
use Rattle.dif_codegen.specs.Correct.{Gives, end_of_outcome}
use Rattle.dif_codegen.specs.Meaning.{goes_on, ends_within, value_of}

abbrev outcome_of : End → Outcome Value
outcome_of (Returns value vars) = Has value vars
outcome_of (Divides vars) = Faults vars

there_again : (z : Outcome Value) → outcome_of (end_of_outcome z) ≡ z
there_again (Has value vars) = refl
there_again (Faults vars) = refl

back_again : (end : End) → end_of_outcome (outcome_of end) ≡ end
back_again (Returns value vars) = refl
back_again (Divides vars) = refl

module _ (f : Firing) (o : Object) where
  within_is : (n : ℕ) (s : Frame) (vars : Variables) (end : End) (run : Reaches o f s vars end) → steps run ≤ n → ends_within n f o s vars ≡ outcome_of end
  within_is zero s vars end (ends value after e) few = absurd (omega arith)
  within_is zero s vars end (faults after e) few = absurd (omega arith)
  within_is zero s vars end (goes next after e rest) few = absurd (omega arith)
  within_is (suc n) s vars end (ends value after e) few = ap (λ x. goes_on x vars (ends_within n f o)) e
  within_is (suc n) s vars end (faults after e) few = ap (λ x. goes_on x vars (ends_within n f o)) e
  within_is (suc n) s vars end (goes next after e rest) few =
      ap (λ x. goes_on x vars (ends_within n f o)) e ∙ within_is n next after end rest (omega arith)

  pub value_is : (vars : Variables) (z : Outcome Value) → IsValid o → Runs o f vars (end_of_outcome z) → value_of f o vars ≡ z
  value_is vars z valid run =
      let over = is_over o valid f vars in
      within_is (length o.code) start vars over.0 over.1 over.2
      ∙ ap outcome_of (one_end o f start vars over.0 (end_of_outcome z) over.1 run)
      ∙ there_again z

  -- what a run of valid code returns is its value
  pub run_gives : (vars : Variables) (r : Result Value MachineFault) (after : Variables) → IsValid o → RunEnds o f vars r after → Gives (value_of f o vars) r after
  run_gives vars (Ok value) after valid run = value_is vars (Has value after) valid run
  run_gives vars (Err DivideByZero) after valid run = value_is vars (Faults after) valid run
  run_gives vars (Err Memory) after valid run = tt

  -- a run of valid code ends as its value says
  pub run_of_value : (vars : Variables) → IsValid o → Runs o f vars (end_of_outcome (value_of f o vars))
  run_of_value vars valid =
      let over = is_over o valid f vars in
      subst (λ e. Runs o f vars e) (sym (ap end_of_outcome (within_is (length o.code) start vars over.0 over.1 over.2) ∙ back_again over.0)) over.1
