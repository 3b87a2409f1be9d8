-- What clauses read of a faulty reader or writer.
use Rattle.std.specs.Prelude.{◌≡◌, ℕ, ◌+◌, ◌-◌, ◌<◌, ◌^◌, Result, IsErrAnd}
use Rattle.std.specs.IoError.{error_kind}
use Rattle.std.specs.declared.io.Error.{Error}
use Rattle.std.specs.declared.io.ErrorKind.TheVariants.{Interrupted}
use Rattle.streams.specs.declared.faulty.Faulty.{Faulty}

-- the reader or writer itself
abbrev pub faulty_inner : {T : Type 0} → Faulty T → T
faulty_inner f = f.inner

-- how many more calls go well
abbrev pub faulty_good_calls : {T : Type 0} → Faulty T → ℕ
faulty_good_calls f = f.good_calls

-- A call uses up a good one. If none is left it is interrupted and moves nothing, and later calls
-- go well.
pub record UsesGoodCall {T A : Type 0} (old new : Faulty T) (result : Result A Error)
    : Type 0 where
  pub counted : 0 < old.good_calls → new.good_calls + 1 ≡ old.good_calls
  pub fails : old.good_calls ≡ 0 → IsErrAnd result (λ e. error_kind e ≡ Interrupted)
  pub untouched : old.good_calls ≡ 0 → new.inner ≡ old.inner
  pub later : old.good_calls ≡ 0 → new.good_calls ≡ 2 ^ 64 - 1
