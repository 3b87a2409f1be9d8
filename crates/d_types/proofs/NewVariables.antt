-- A new variable.
use Rattle.std.proofs.Common.{◌≡◌, ℕ, ◌++◌, ◌∷◌, Bool, List, [], length, nat_le, true, false}
use Rattle.std.proofs.Common.{Option, None, Result, Ok, Err, refl}
use Rattle.std.specs.Prelude.{IsErrAnd, if◌then◌else◌}
use Rattle.std.proofs.lemmas.Result.{err_from_is_err_and}
use Rattle.d_values.specs.declared.int_type.DType.{DType}
use Rattle.d_types.specs.declared.fault.TypeFault.{TypeFault}
use Rattle.d_types.specs.declared.fault.TypeFault.TheVariants as f
use Rattle.d_types.specs.declared.typed.Space.{Space}
use Rattle.d_types.specs.declared.typed.TypedExpr.{TypedExpr}
use Rattle.d_types.specs.Typed.{typeds_of}
use Rattle.d_types.specs.Variables.{Rows}
use Rattle.d_types.specs.Steps.Faults.{Fault, Gives, refuse, Keys}
use Rattle.d_types.specs.Steps.Targets.{slot_for}
use Rattle.d_types.specs.Targets.{most_keys, new_row}
use Rattle.d_types.specs.Variables.{kinds_of_typed}
use Rattle.d_types.proofs.Rows.{count_is}

-- what the check of the keys returns
abbrev checked : Bool → ℕ → Result (Unit {0}) TypeFault
checked fit line = if fit then Ok tt else Err (f.Keys line)

pub check_passed : (fit : Bool) (line : ℕ) (x : Unit {0}) → Ok x ≡ checked fit line → fit ≡ true
check_passed true line x h = refl
check_passed false line x h = cc

pub check_failed : (fit : Bool) (line : ℕ) (e : TypeFault) → Err e ≡ checked fit line → (fit ≡ false) × (e ≡ f.Keys line)
check_failed true line e h = cc
check_failed false line e h = (refl, cc)

-- where a `?` passes on that keys don't fit
pub refused : {X B : Type 0} (view : X → B) (result : Result X TypeFault) (e : TypeFault) (line : ℕ) (r : Result B Fault)
    → IsErrAnd result (λ passed. passed ≡ e) → e ≡ f.Keys line → r ≡ refuse Keys line → Gives view result r
refused view result e line r is keys h = let p = err_from_is_err_and result is in rw (p.1, p.2, keys) h

module _ (space : Space) (line : ℕ) (name : List ℕ) (rows : Rows) (holds : Option DType) (keys : List TypedExpr) (o : Option ℕ) (none : o ≡ None) where
  pub slot_refused : nat_le (length keys) (most_keys space) ≡ false → slot_for space line name rows holds (typeds_of keys) o ≡ refuse Keys line
  slot_refused h = rw (none, count_is keys, h) refl

  pub slot_new : nat_le (length keys) (most_keys space) ≡ true → slot_for space line name rows holds (typeds_of keys) o ≡ Ok (length rows, rows ++ new_row space name holds (kinds_of_typed (typeds_of keys)) ∷ [])
  slot_new h = rw (none, count_is keys, h) refl
