-- This crate's word for "exactly the definition, unless memory ran out", in all its contracts.
use Rattle.std.specs.Prelude.{◌≡◌, Option, Some, None, Result, Ok, Err}

-- the definition has this fault; if there is none, memory was refused, and nothing is claimed
abbrev pub Fails : {Y Fault : Type 0} → Option Fault → Result Y Fault → Type 0
Fails None read = Unit {0}
Fails (Some fault) read = read ≡ Err fault

-- The definition has what a function returned: at Ok the value, seen by view; at Err the fault that
-- fault_of finds in the error. It finds none in the error that stands for refused memory.
abbrev pub Gives : {X Y Error Fault : Type 0} → (Error → Option Fault) → (X → Y)
    → Result X Error → Result Y Fault → Type 0
Gives fault_of view (Ok x) read = read ≡ Ok (view x)
Gives fault_of view (Err e) read = Fails (fault_of e) read
