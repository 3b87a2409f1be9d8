-- Whole runs.
-- Source: Cantrill, Shapiro and Leventhal, "Dynamic Instrumentation of Production Systems" (USENIX
-- 2004), on DIF.
use Rattle.std.specs.Prelude.{◌≡◌, ◌≤◌, ℕ, suc, length, Result, Ok, Err}
use Rattle.dif_machine.specs.Vocabulary.{Firing, MachineFault, DivideByZero, Memory, Object, Value}
use Rattle.dif_machine.specs.Vocabulary.{Variables}
use Rattle.dif_machine.specs.Frames.{Frame, start}
use Rattle.dif_machine.specs.Semantics.{Next, Goes, Ends, Faults, step_of}

-- how a run ends: with a value or at a division by 0, and with the variables
pub data End : Type 0 where
  Returns : (value : Value) (vars : Variables) → End
  Divides : (vars : Variables) → End

-- from this state the machine comes to this end
pub data Reaches (o : Object) (f : Firing) : Frame → Variables → End → Type 0 where
  ends : {s : Frame} {vars : Variables} (value : Value) (after : Variables)
      → step_of o f s vars ≡ Ends value after → Reaches o f s vars (Returns value after)
  faults : {s : Frame} {vars : Variables} (after : Variables)
      → step_of o f s vars ≡ Faults after → Reaches o f s vars (Divides after)
  goes : {s : Frame} {vars : Variables} {end : End} (next : Frame) (after : Variables)
      → step_of o f s vars ≡ Goes next after → Reaches o f next after end
      → Reaches o f s vars end

-- a run from the first instruction
abbrev pub Runs : Object → Firing → Variables → End → Type 0
Runs o f vars end = Reaches o f start vars end

-- the machine comes from one state to another, by no step or by several
pub data Comes (o : Object) (f : Firing) (s : Frame) (vars : Variables)
    : Frame → Variables → Type 0 where
  stays : Comes o f s vars s vars
  steps_on : {t : Frame} {mid : Variables} (next : Frame) (after : Variables)
      → Comes o f s vars t mid → step_of o f t mid ≡ Goes next after
      → Comes o f s vars next after

-- a state whose step ends the run so
abbrev pub EndsBy : Next → End → Type 0
EndsBy (Ends value after) end = end ≡ Returns value after
EndsBy (Faults after) end = end ≡ Divides after
EndsBy next end = ⊥

-- what a run returns and leaves: if memory ran out, the variables as a state has them that it
-- came to
abbrev pub RunEnds : Object → Firing → Variables → Result Value MachineFault → Variables → Type 0
RunEnds o f vars (Ok value) after = Runs o f vars (Returns value after)
RunEnds o f vars (Err DivideByZero) after = Runs o f vars (Divides after)
RunEnds o f vars (Err Memory) after = (s : Frame) × Comes o f start vars s after

-- how many steps a run makes
abbrev pub steps : {o : Object} {f : Firing} {s : Frame} {vars : Variables} {end : End}
    → Reaches o f s vars end → ℕ
steps (ends value after e) = 1
steps (faults after e) = 1
steps (goes next after e rest) = suc (steps rest)

-- the run ends, after at most as many steps as there are instructions
abbrev pub IsOver : Object → Firing → Variables → Type 0
IsOver o f vars = (end : End) × (run : Runs o f vars end) × (steps run ≤ length o.code)
