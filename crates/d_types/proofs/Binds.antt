-- A part's fault is the whole's.
use Rattle.std.proofs.Common.{◌≡◌, Result, Ok, refl}
use Rattle.std.proofs.lemmas.Result.{err_from_is_err_and}
use Rattle.std.specs.Prelude.{IsErrAnd}
use Rattle.d_types.specs.declared.fault.TypeFault.{TypeFault}
use Rattle.d_types.specs.declared.fault.TypeFault.TheVariants as f
use Rattle.d_types.specs.Steps.Faults.{◌>>=◌, Fault, Fails, Gives}

pub fails_bind : {A B : Type 0} (e : TypeFault) (r : Result A Fault) (go : A → Result B Fault) → Fails e r → Fails e (r >>= go)
fails_bind (f.GlobalAssignment name line) r go h = rw h refl
fails_bind (f.Undeclared line) r go h = rw h refl
fails_bind (f.Mismatch line) r go h = rw h refl
fails_bind (f.Keys line) r go h = rw h refl
fails_bind (f.AggregationRedefined line) r go h = rw h refl
fails_bind (f.LquantizeBounds line) r go h = rw h refl
fails_bind (f.PrintfArguments line) r go h = rw h refl
fails_bind (f.ReadOnly line) r go h = rw h refl
fails_bind (f.NoRegister line) r go h = rw h refl
fails_bind f.Memory r go h = tt

-- where a `?` passes on a part's fault
pub stops : {X A B : Type 0} (view : X → B) (result : Result X TypeFault) (e : TypeFault) (part : Result A Fault) (go : A → Result B Fault)
    → IsErrAnd result (λ passed. passed ≡ e) → Fails e part → Gives view result (part >>= go)
stops view result e part go is h = let p = err_from_is_err_and result is in rw (p.1, p.2) (fails_bind e part go h)

-- where a `?` says that memory was refused
pub spent : {X B : Type 0} (view : X → B) (result : Result X TypeFault) (r : Result B Fault)
    → IsErrAnd result (λ passed. passed ≡ f.Memory) → Gives view result r
spent view result r is = let p = err_from_is_err_and result is in rw (p.1, p.2) tt

-- where the index and the table of a call that fails only if memory runs out are the result
pub passed_on : {P T : Type 0} (p index : P) (table new : T) (r : Result (P × T) Fault)
    → r ≡ Ok (index, new) → p ≡ index → table ≡ new → Gives {X = P} (λ q. (q, table)) (Ok p) r
passed_on p index table new r is here there = rw (here, there) is
