-- What a call that executes an instruction needs, and what it does.
use Rattle.std.specs.Prelude.{◌≡◌, ◌≢◌, ◌+◌, ℕ, List, [], Some, Result, Ok, Err}
use Rattle.numbered.specs.Texts.{Keeps}
use Rattle.dif_machine.specs.Vocabulary.{Firing, Instr, KeyPart, Kind, Ldls, Ldtaa, Ldts}
use Rattle.dif_machine.specs.Vocabulary.{MachineFault, Object, Reg, Stls, Sttaa, Stts, Value}
use Rattle.dif_machine.specs.Vocabulary.{Variables, at, set_local, set_own}
use Rattle.dif_machine.specs.Frames.{Frame, at_index}
use Rattle.dif_machine.specs.Machine.{Knows, Seen}
use Rattle.dif_machine.specs.Runs.{RunEnds}
use Rattle.dif_machine.specs.Semantics.{Next, Stuck, act}
use Rattle.dif_machine.specs.Sources.{local_in, own_value}
use Rattle.dif_machine.specs.Steps.Lasting.{IsRunning, Lasts}
use Rattle.dif_machine.specs.Steps.Semantics.{Stepped}
use Rattle.dif_machine.specs.declared.memory.Variable.{Variable}
use Rattle.dif_machine.specs.declared.memory.Variable.TheVariants.{Local, Scalar, Element}
use Rattle.dif_machine.specs.declared.onward.Onward.{Onward}

-- ---- what the machine's own calls leave

-- another frame, and all else as it was
abbrev pub with_frame : Seen → Frame → Seen
with_frame m s = record { texts = m.texts; lasting = m.lasting; frame = s; known = m.known }

-- texts may be more, and all else is as it was
pub record Grows (m n : Seen) : Type 0 where
  pub kept : Keeps m.texts n.texts
  pub lasting : Lasts m n
  pub frame : n.frame ≡ m.frame
  pub known : n.known ≡ m.known

-- ---- variables, as instructions name them

abbrev pub load_of : Variable → Reg → Instr
load_of (Local x) d = Ldls x d
load_of (Scalar x) d = Ldts x d
load_of (Element x) d = Ldtaa x d

abbrev pub store_of : Variable → Reg → Instr
store_of (Local x) a = Stls x a
store_of (Scalar x) a = Stts x a
store_of (Element x) a = Sttaa x a

abbrev pub kind_in : Variable → Kind
kind_in (Local x) = x.kind
kind_in (Scalar x) = x.kind
kind_in (Element x) = x.kind

-- what it holds, at a tuple
abbrev pub held_in : Variables → Variable → List KeyPart → Value
held_in vars (Local x) tuple = local_in vars x
held_in vars (Scalar x) tuple = own_value vars x []
held_in vars (Element x) tuple = own_value vars x tuple

abbrev pub set_in : Variables → Variable → List KeyPart → Value → Variables
set_in vars (Local x) tuple value = set_local vars x value
set_in vars (Scalar x) tuple value = set_own vars x [] value
set_in vars (Element x) tuple value = set_own vars x tuple value

-- ---- steps

-- at some index, with some variables, the instruction isn't stuck
pub record CanExecute (i : Instr) (s : Frame) : Type 0 where
  pub object : Object
  pub firing : Firing
  pub vars : Variables
  pub index : ℕ
  pub runs : act i object firing (at_index s index) vars ≢ Stuck

-- whatever the variables, the call returns and leaves what the definition says, and texts keep
-- their numbers
pub record ExecutesFor (i : Instr) (o : Object) (f : Firing) (m : Seen)
    (result : Result Onward MachineFault) (n : Seen) : Type 0 where
  pub kept : Keeps m.texts n.texts
  pub lasting : Keeps m.lasting m.texts → Lasts m n
  pub known : Knows f m.known → Knows f n.known
  pub stepped : (index : ℕ) (vars : Variables)
      → Stepped vars (act i o f (at_index m.frame index) vars) result
      (at_index n.frame (index + 1)) vars

-- and whatever the object and the firing
abbrev pub Executes : Instr → Seen → Result Onward MachineFault → Seen → Type 0
Executes i m result n = (o : Object) (f : Firing) → ExecutesFor i o f m result n

-- with the variables that are in a memory, the call returns and leaves what follows an index
pub record LeadsTo {M : Type 0} (holds : M → List (List ℕ) → Variables)
    (is_over : M → List (List ℕ) → Type 0) (beside : M → List ℕ → ℕ) (f : Firing) (memory : M)
    (m : Seen) (index : ℕ) (result : Result Onward MachineFault) (left : M) (n : Seen)
    (next : Next) : Type 0 where
  pub lasting : Lasts m n
  pub known : Knows f m.known → Knows f n.known
  pub over : is_over left n.lasting
  pub others : beside left ≡ beside memory
  pub stepped : Stepped (holds memory m.texts) next result (at_index n.frame (index + 1))
      (holds left n.texts)

pub record ExecutesOn {M : Type 0} (holds : M → List (List ℕ) → Variables)
    (is_over : M → List (List ℕ) → Type 0) (beside : M → List ℕ → ℕ) (i : Instr) (o : Object)
    (f : Firing) (memory : M) (m : Seen) (result : Result Onward MachineFault) (left : M)
    (n : Seen) : Type 0 where
  pub leads : (index : ℕ) → LeadsTo holds is_over beside f memory m index result left n
      (act i o f (at_index m.frame index) (holds memory m.texts))

-- ---- runs that stop

-- a run ends so, with its value in a register
abbrev pub StopsBy : Object → Firing → Variables → Frame → Result Reg MachineFault → Variables
    → Type 0
StopsBy o f vars s (Ok a) after =
    (value : Value) × (at s.registers a ≡ Some value) × RunEnds o f vars (Ok value) after
StopsBy o f vars s (Err fault) after = RunEnds o f vars (Err fault) after

-- an object ran over a machine and a memory, which its last instruction left so
pub record Stops {M : Type 0} (holds : M → List (List ℕ) → Variables)
    (is_over : M → List (List ℕ) → Type 0) (others : M → List ℕ → ℕ) (o : Object) (f : Firing)
    (old : M) (m : Seen) (result : Result Reg MachineFault) (new : M) (n : Seen) : Type 0 where
  pub ends : StopsBy o f (holds old m.texts) n.frame result (holds new n.texts)
  pub kept : Keeps m.texts n.lasting
  pub known : Knows f n.known
  pub running : IsRunning is_over new n
  pub beside : others new ≡ others old
