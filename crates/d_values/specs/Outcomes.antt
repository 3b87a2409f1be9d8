-- How an evaluation ends, and a call for which memory may be refused.
use Rattle.std.specs.Prelude.{◌≡◌, Result, OnErr, OnOk}
use Rattle.d_values.specs.Storage.{Variables}

-- with what it has, or with the fault, and the variables after it
pub data Outcome (A : Type 0) : Type 0 where
  Has : A → Variables → Outcome A
  Faults : Variables → Outcome A

-- goes on with what there is
abbrev pub with : {A B : Type 0} → Outcome A → (A → Variables → Outcome B) → Outcome B
with (Has x vars) go = go x vars
with (Faults vars) go = Faults vars

-- the call did this, or was refused and left the value as it was
pub record AllOrNothing {V X E : Type 0} (result : Result X E) (old new : V) (Done : Type 0)
    : Type 0 where
  pub ok : OnOk result Done
  pub err : OnErr result (new ≡ old)
