-- Runs end, each in one way.
use Rattle.std.specs.Prelude.{Some, ◌≡◌, ◌≤◌, ◌<◌, ℕ, zero, suc, ◌+◌, length}
use Rattle.std.proofs.Common.{refl, sym, subst, arith}
use Rattle.dif_machine.specs.Vocabulary.{kind_of, Value, return_kind, Firing, Object, IsValid}
use Rattle.dif_machine.specs.Vocabulary.{Variables}
use Rattle.dif_machine.specs.Frames.{Frame}
use Rattle.dif_machine.specs.Frames as frames
use Rattle.dif_machine.specs.Runs.{End, Returns, Divides, Reaches, ends, faults, goes, steps}
use Rattle.dif_machine.specs.Runs.{EndsBy, IsOver, Runs}
use Rattle.dif_machine.specs.Semantics.{Next, Goes, Ends, Faults, Stuck, step_of}
use Rattle.dif_machine.proofs.Progress.{Reached, Onward, progress, start_reached}

module _ (o : Object) (valid : IsValid o) (f : Firing) where
  abbrev Over : ℕ → Frame → Variables → Type 0
  Over fuel s vars = (end : End) × (run : Reaches o f s vars end) × (steps run ≤ fuel)

  over : (fuel : ℕ) (s : Frame) (vars : Variables) → Reached o s → length o.code ≤ s.pc + fuel → Over fuel s vars
  over zero s vars r enough = absurd (omega (arith, r.inside))
  over (suc fuel) s vars r enough = by (step_of o f s vars) refl (progress o valid f s vars r) (λ next after less h. over fuel next after h (omega arith))
    where
      by : (n : Next) → step_of o f s vars ≡ n → Onward o s.pc n → ((next : Frame) (after : Variables) → s.pc < next.pc → Reached o next → Over fuel next after) → Over (suc fuel) s vars
      by (Goes next after) e on again = let rest = again next after on.0 on.1 in let le = rest.2 in (rest.0, goes next after e rest.1, omega arith)
      by (Ends value after) e on again = (Returns value after, ends value after e, omega arith)
      by (Faults after) e on again = (Divides after, faults after e, omega arith)
      by Stuck e on again = absurd on

  pub is_over : (vars : Variables) → IsOver o f vars
  is_over vars = over (length o.code) frames.start vars (start_reached o valid) (omega arith)

  -- with a value of the object's kind
  returns_kind : (s : Frame) (vars after : Variables) (value : Value) → Reached o s → Reaches o f s vars (Returns value after) → return_kind o ≡ Some (kind_of value)
  returns_kind s vars after value r (ends v w e) = subst (Onward o s.pc) e (progress o valid f s vars r)
  returns_kind s vars after value r (goes next mid e rest) = returns_kind next mid after value (subst (Onward o s.pc) e (progress o valid f s vars r)).1 rest

  pub is_kinded : (vars after : Variables) (value : Value) → Runs o f vars (Returns value after) → return_kind o ≡ Some (kind_of value)
  is_kinded vars after value run = returns_kind frames.start vars after value (start_reached o valid) run

-- what a run does after its next step
abbrev After : Object → Firing → End → Next → Type 0
After o f end (Goes next after) = Reaches o f next after end
After o f end n = EndsBy n end

after : (o : Object) (f : Firing) (s : Frame) (vars : Variables) (end : End) → Reaches o f s vars end → After o f end (step_of o f s vars)
after o f s vars end (ends v w e) = subst (After o f end) (sym e) refl
after o f s vars end (faults w e) = subst (After o f end) (sym e) refl
after o f s vars end (goes n w e r) = subst (After o f end) (sym e) r

pub one_end : (o : Object) (f : Firing) (s : Frame) (vars : Variables) (a b : End) → Reaches o f s vars a → Reaches o f s vars b → a ≡ b
one_end o f s vars a b (ends v w e) r' = sym (subst (After o f b) e (after o f s vars b r'))
one_end o f s vars a b (faults w e) r' = sym (subst (After o f b) e (after o f s vars b r'))
one_end o f s vars a b (goes n w e r) r' = one_end o f n w a b r (subst (After o f b) e (after o f s vars b r'))
