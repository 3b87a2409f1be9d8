-- A run that returned came to a state with the variables that it left.
use Rattle.std.specs.Prelude.{◌≡◌, Result, Ok, Err, IsErrAnd}
use Rattle.std.proofs.Common.{refl, sym, subst}
use Rattle.dif_machine.specs.Vocabulary.{Firing, MachineFault, Memory, Object, Value, Variables}
use Rattle.dif_machine.specs.Frames.{Frame, start}
use Rattle.dif_machine.specs.Runs.{End, Returns, Divides, Reaches, ends, faults, goes, Comes, stays}
use Rattle.dif_machine.specs.Runs.{steps_on, EndsBy, RunEnds, Runs}
use Rattle.dif_machine.specs.Semantics.{Next, Goes, Ends, Faults, step_of}
use Rattle.dif_machine.proofs.Changing.{end_keeps}

module _ (o : Object) (f : Firing) where
  comes_after : (s next : Frame) (vars mid : Variables) (t : Frame) (after : Variables) → step_of o f s vars ≡ Goes next mid → Comes o f next mid t after → Comes o f s vars t after
  comes_after s next vars mid t after e stays = steps_on next mid stays e
  comes_after s next vars mid t after e (steps_on {t = u} {mid = between} last left c step) = steps_on last left (comes_after s next vars mid u between e c) step

  arrives : (s : Frame) (vars after : Variables) (value : Value) → Reaches o f s vars (Returns value after) → (t : Frame) × Comes o f s vars t after
  arrives s vars after value (ends lent left e) = (s, subst (Comes o f s vars s) (sym (end_keeps o f s vars after value e)) stays)
  arrives s vars after value (goes next mid e rest) =
      let there = arrives next mid after value rest in
      (there.0, comes_after s next vars mid there.0 after e there.1)

  -- a run comes to a state that ends it
  pub ends_there : (s : Frame) (vars : Variables) (end : End) → Reaches o f s vars end
      → (t : Frame) × (mid : Variables) × Comes o f s vars t mid × EndsBy (step_of o f t mid) end
  ends_there s vars end (ends value after e) = (s, vars, stays, subst (λ n. EndsBy n (Returns value after)) (sym e) refl)
  ends_there s vars end (faults after e) = (s, vars, stays, subst (λ n. EndsBy n (Divides after)) (sym e) refl)
  ends_there s vars end (goes next mid e rest) =
      let there = ends_there next mid end rest in
      (there.0, there.1, comes_after s next vars mid there.0 there.1 e there.2, there.3)

  reaches_by : (s : Frame) (vars : Variables) (end : End) (n : Next) → step_of o f s vars ≡ n → EndsBy n end → Reaches o f s vars end
  reaches_by s vars end (Ends value after) e by = subst (Reaches o f s vars) (sym by) (ends value after e)
  reaches_by s vars end (Faults after) e by = subst (Reaches o f s vars) (sym by) (faults after e)
  reaches_by s vars end _ e by = absurd by

  reaches_from : (s : Frame) (vars : Variables) (end : End) (t : Frame) (mid : Variables) → Comes o f s vars t mid → Reaches o f t mid end → Reaches o f s vars end
  reaches_from s vars end t mid stays reaches = reaches
  reaches_from s vars end t mid (steps_on {t = u} {mid = between} last left c step) reaches = reaches_from s vars end u between c (goes last left step reaches)

  -- and where it comes to such a state it ends so
  pub ends_from : (s t : Frame) (vars mid : Variables) (end : End) → Comes o f s vars t mid → EndsBy (step_of o f t mid) end → Reaches o f s vars end
  ends_from s t vars mid end comes by = reaches_from s vars end t mid comes (reaches_by t mid end (step_of o f t mid) refl by)

  -- so memory may be refused after it
  pub ends_refused : (vars after : Variables) (value : Value) (r : Result Value MachineFault) → IsErrAnd r (λ e. e ≡ Memory) → Runs o f vars (Returns value after) → RunEnds o f vars r after
  ends_refused vars after value (Ok other) e run = absurd e
  ends_refused vars after value (Err fault) e run = subst (λ x. RunEnds o f vars (Err x) after) (sym e) (arrives start vars after value run)

  -- and before it
  pub refused_first : (vars : Variables) (r : Result Value MachineFault) → IsErrAnd r (λ e. e ≡ Memory) → RunEnds o f vars r vars
  refused_first vars (Ok other) e = absurd e
  refused_first vars (Err fault) e = subst (λ x. RunEnds o f vars (Err x) vars) (sym e) (start, stays)
