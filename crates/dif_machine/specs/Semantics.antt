-- The machine: what each instruction does.
-- Source: Cantrill, Shapiro and Leventhal, "Dynamic Instrumentation of Production Systems" (USENIX
-- 2004), on DIF.
use Rattle.std.specs.Prelude.{ℕ, zero, suc, ◌+◌, ◌++◌, List, [], ◌∷◌, length, nat_lt, if◌then◌else◌}
use Rattle.std.specs.Prelude.{Option, Some, None, Result, Ok, Err, slice_get}
use Rattle.dif_machine.specs.Vocabulary.{cast_signed, w64, Firing, Instr, Alu, Not, Mov, Cmp, Tst}
use Rattle.dif_machine.specs.Vocabulary.{Scmp, Ba, Branch, Setx, Sets, Ldgs, Ldga, Ldts, Stts, Ldls}
use Rattle.dif_machine.specs.Vocabulary.{Stls, Pushtr, Pushtv, Flushts, Ldtaa, Sttaa, Call, Ret}
use Rattle.dif_machine.specs.Vocabulary.{Nop, KeyPart, Number, Name, Kind, NumberKind, TextKind}
use Rattle.dif_machine.specs.Vocabulary.{Object, OutOfZero, Reg, at, Value, Int, Text, Var}
use Rattle.dif_machine.specs.Vocabulary.{Variables, set_local, set_own}
use Rattle.dif_machine.specs.Frames.{Frame, at_index, with_value, with_comparison, with_tuple}
use Rattle.dif_machine.specs.Operators.{result_of, complement, comparison_of, text_comparison_of}
use Rattle.dif_machine.specs.Operators.{holds, call_of}
use Rattle.dif_machine.specs.Sources.{built_in_of, argument_of, local_in, own_value}

-- what follows a state
pub data Next : Type 0 where
  Goes : (frame : Frame) (vars : Variables) → Next
  Ends : (value : Value) (vars : Variables) → Next
  Faults : (vars : Variables) → Next
  Stuck : Next

-- ---- on with what is there, and stuck without it

abbrev pub on : {A : Type 0} → Option A → (A → Next) → Next
on None go = Stuck
on (Some x) go = go x

abbrev pub on_number : Option Value → (ℕ → Next) → Next
on_number None go = Stuck
on_number (Some (Int n)) go = go n
on_number (Some (Text bytes)) go = Stuck

abbrev pub on_text : Option Value → (List ℕ → Next) → Next
on_text None go = Stuck
on_text (Some (Int n)) go = Stuck
on_text (Some (Text bytes)) go = go bytes

abbrev pub on_kind : Kind → Option Value → (Value → Next) → Next
on_kind NumberKind value go = on_number value (λ n. go (Int n))
on_kind TextKind value go = on_text value (λ bytes. go (Text bytes))

abbrev pub on_key : List KeyPart → Next → Next
on_key [] next = Stuck
on_key (p ∷ ps) next = next

-- ---- the tables

abbrev pub store_own : Frame → Variables → Var → List KeyPart → Value → Next
store_own s vars x key value =
    Goes (at_index s (s.pc + 1)) (set_own vars x key value)

abbrev pub store_local : Frame → Variables → Var → Value → Next
store_local s vars x value = Goes (at_index s (s.pc + 1)) (set_local vars x value)

-- ---- steps

abbrev pub puts : Frame → Reg → Value → Variables → Next
puts s d value vars = Goes (with_value s d value) vars

-- a division by 0 ends the run
abbrev pub puts_result : Frame → Reg → Result ℕ OutOfZero → Variables → Next
puts_result s d (Ok word) vars = puts s d (Int word) vars
puts_result s d (Err e) vars = Faults vars

-- up to 8 parts
abbrev pub pushes : Frame → KeyPart → Variables → Next
pushes s p vars =
    if nat_lt (length s.tuple) 8 then Goes (with_tuple s (s.tuple ++ p ∷ [])) vars else Stuck

-- what the instruction at the index does
abbrev pub act : Instr → Object → Firing → Frame → Variables → Next
act (Alu op a b d) o f s vars =
    on_number (at s.registers a)
    (λ x. on_number (at s.registers b) (λ y. puts_result s d (result_of op x y) vars))
act (Not a d) o f s vars =
    on_number (at s.registers a) (λ x. puts s d (Int (complement x)) vars)
act (Mov a d) o f s vars = on (at s.registers a) (λ x. puts s d x vars)
act (Cmp a b) o f s vars =
    on_number (at s.registers a)
    (λ x. on_number (at s.registers b) (λ y. Goes (with_comparison s (comparison_of x y)) vars))
act (Tst a) o f s vars =
    on_number (at s.registers a) (λ x. Goes (with_comparison s (comparison_of x 0)) vars)
act (Scmp a b) o f s vars =
    on_text (at s.registers a)
    (λ x. on_text (at s.registers b) (λ y. Goes (with_comparison s (text_comparison_of x y)) vars))
act (Ba to) o f s vars = Goes (at_index s to) vars
act (Branch condition to) o f s vars =
    on s.comparison
    (λ known. Goes (at_index s (if holds condition known then to else (s.pc + 1))) vars)
act (Setx i d) o f s vars = on (slice_get o.numbers i) (λ n. puts s d (Int n) vars)
act (Sets i d) o f s vars = on (slice_get o.texts i) (λ bytes. puts s d (Text bytes) vars)
act (Ldgs v d) o f s vars = on (built_in_of f v) (λ x. puts s d x vars)
act (Ldga zero a d) o f s vars =
    on_number (at s.registers a) (λ n. puts s d (Int (argument_of f n)) vars)
act (Ldga (suc v) a d) o f s vars = Stuck
act (Ldts x d) o f s vars = puts s d (own_value vars x []) vars
act (Stts x a) o f s vars = on_kind x.kind (at s.registers a) (store_own s vars x [])
act (Ldls x d) o f s vars = puts s d (local_in vars x) vars
act (Stls x a) o f s vars = on_kind x.kind (at s.registers a) (store_local s vars x)
act (Pushtr a) o f s vars =
    on_text (at s.registers a) (λ bytes. pushes s (Name bytes) vars)
act (Pushtv a) o f s vars =
    on_number (at s.registers a) (λ n. pushes s (Number (cast_signed w64 n)) vars)
act Flushts o f s vars = Goes (with_tuple s []) vars
act (Ldtaa x d) o f s vars = on_key s.tuple (puts s d (own_value vars x s.tuple) vars)
act (Sttaa x a) o f s vars =
    on_key s.tuple (on_kind x.kind (at s.registers a) (store_own s vars x s.tuple))
act (Call function d) o f s vars = on (call_of function s.tuple) (λ value. puts s d value vars)
act (Ret a) o f s vars = on (at s.registers a) (λ value. Ends value vars)
act Nop o f s vars = Goes (at_index s (s.pc + 1)) vars

-- one step
abbrev pub step_of : Object → Firing → Frame → Variables → Next
step_of o f s vars = on (slice_get o.code s.pc) (λ i. act i o f s vars)
