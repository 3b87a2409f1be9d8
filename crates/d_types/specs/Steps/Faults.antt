-- The first fault of the code's walk, and what a function may return.
use Rattle.std.specs.Prelude.{◌≡◌, ℕ, List, Option, Some, None, Result, Ok, Err}
use Rattle.d_types.specs.Vocabulary.{TypeFault}

-- why a construct is refused; if several causes hold, the first of them is reported
pub data Cause : Type 0 where
  GlobalAssignment : (name : List ℕ) → Cause
  Undeclared : Cause
  Mismatch : Cause
  Keys : Cause
  AggregationRedefined : Cause
  LquantizeBounds : Cause
  PrintfArguments : Cause
  ReadOnly : Cause
  NoRegister : Cause

-- a cause, and the line of the refused construct's first token
pub record Fault : Type 0 where
  pub cause : Cause
  pub line : ℕ

-- goes on with a value, and stops at the first fault
infixl 10 ◌>>=◌
abbrev pub ◌>>=◌ : {A B : Type 0} → Result A Fault → (A → Result B Fault) → Result B Fault
(Err e) >>= go = Err e
(Ok x) >>= go = go x

abbrev pub refuse : {A : Type 0} → Cause → ℕ → Result A Fault
refuse cause line = Err (record { cause = cause; line = line })

-- what there is, or else the cause
abbrev pub unless : {A : Type 0} → Cause → ℕ → Option A → Result A Fault
unless cause line None = refuse cause line
unless cause line (Some x) = Ok x

-- The function's fault is the definition's, unless memory ran out.
abbrev pub Fails : {Y : Type 0} → TypeFault → Result Y Fault → Type 0
Fails (TypeFault.GlobalAssignment name line) r = r ≡ refuse (GlobalAssignment name) line
Fails (TypeFault.Undeclared line) r = r ≡ refuse Undeclared line
Fails (TypeFault.Mismatch line) r = r ≡ refuse Mismatch line
Fails (TypeFault.Keys line) r = r ≡ refuse Keys line
Fails (TypeFault.AggregationRedefined line) r = r ≡ refuse AggregationRedefined line
Fails (TypeFault.LquantizeBounds line) r = r ≡ refuse LquantizeBounds line
Fails (TypeFault.PrintfArguments line) r = r ≡ refuse PrintfArguments line
Fails (TypeFault.ReadOnly line) r = r ≡ refuse ReadOnly line
Fails (TypeFault.NoRegister line) r = r ≡ refuse NoRegister line
Fails TypeFault.Memory r = Unit {0}

-- What a function returned, seen by view, is what the definition gives, unless memory ran out.
abbrev pub Gives : {X Y : Type 0} → (X → Y) → Result X TypeFault → Result Y Fault → Type 0
Gives view (Ok x) r = r ≡ Ok (view x)
Gives view (Err e) r = Fails e r

-- only memory is a reason to fail
abbrev pub OnlyMemory : {X : Type 0} → Result X TypeFault → Type 0
OnlyMemory (Ok x) = Unit {0}
OnlyMemory (Err e) = e ≡ TypeFault.Memory
