-- What a call that makes one step returns and leaves.
use Rattle.std.specs.Prelude.{◌≡◌, Some, Result, Ok, Err}
use Rattle.dif_machine.specs.Vocabulary.{MachineFault, DivideByZero, Memory, at, Value}
use Rattle.dif_machine.specs.Vocabulary.{Variables}
use Rattle.dif_machine.specs.Frames.{Frame, at_index}
use Rattle.dif_machine.specs.Semantics.{Next, Ends, Faults}
use Rattle.dif_machine.specs.declared.onward.Onward.{Onward}
use Rattle.dif_machine.specs.declared.onward.Onward.TheVariants as onward

-- what a call that makes a step from these variables returns and leaves, at the index after the
-- instruction; if the step ends the run, the value is in a register; if memory ran out, no
-- variable has changed
abbrev pub Stepped : Variables → Next → Result Onward MachineFault → Frame → Variables → Type 0
Stepped vars next (Ok onward.Next) s after = next ≡ Next.Goes s after
Stepped vars next (Ok (onward.Goes index)) s after = next ≡ Next.Goes (at_index s index) after
Stepped vars next (Ok (onward.Ends a)) s after =
    (value : Value) × (at s.registers a ≡ Some value) × (next ≡ Ends value after)
Stepped vars next (Err DivideByZero) s after = next ≡ Faults after
Stepped vars next (Err Memory) s after = after ≡ vars
