-- What compiled code does.
use Rattle.std.specs.Prelude.{◌≡◌, List, [], ◌∷◌, Option, Some, None, Result, Ok, Err}
use Rattle.d_types.specs.Typed.{Action, Evaluate, Trace, Print, Exit, Aggregate, Typeds, end, more}
use Rattle.d_types.specs.Typed.{type_of}
use Rattle.d_types.specs.Variables.{kind_of_type}
use Rattle.dif_validate.specs.Validity.{IsReturning}
use Rattle.dif_machine.specs.Runs.{End, Returns, Divides, Runs}
use Rattle.dif_codegen.specs.Vocabulary.{Value, Firing, Outcome, Has, Faults, eval}
use Rattle.dif_codegen.specs.Vocabulary.{HasTypedBuiltIns, Slots, AreTyped, Variables, Typed}
use Rattle.dif_codegen.specs.Vocabulary.{TypedObject, Object, MachineFault, DivideByZero, Memory}
use Rattle.dif_codegen.specs.Programs.{ActionCode}

abbrev pub end_of_outcome : Outcome Value → End
end_of_outcome (Has value vars) = Returns value vars
end_of_outcome (Faults vars) = Divides vars

-- a run of the object, from any firing and variables that hold values of their types, ends as the
-- expression means
abbrev pub Computes : Slots → Object → Typed → Type 0
Computes slots o e = (f : Firing) (vars : Variables) → HasTypedBuiltIns f → AreTyped slots vars
    → Runs o f vars (end_of_outcome (eval f e vars))

-- a valid object that returns a value of the expression's type, and computes it
pub record IsObjectOf (slots : Slots) (x : TypedObject) (e : Typed) : Type 0 where
  pub valid : IsReturning x.object (kind_of_type (type_of e))
  pub returns : x.returns ≡ type_of e
  pub computes : Computes slots x.object e

-- each object is of the expression at its index
abbrev pub AreObjectsOf : Slots → List TypedObject → Typeds → Type 0
AreObjectsOf slots [] end = Unit {0}
AreObjectsOf slots (x ∷ xs) (more e es) = IsObjectOf slots x e × AreObjectsOf slots xs es
AreObjectsOf slots xs es = ⊥

-- an object of the expression, if there is one
abbrev pub IsOptionalObjectOf : Slots → Option TypedObject → Option Typed → Type 0
IsOptionalObjectOf slots None None = Unit {0}
IsOptionalObjectOf slots (Some x) (Some e) = IsObjectOf slots x e
IsOptionalObjectOf slots x e = ⊥

-- the same statement, with an object in place of each expression
abbrev pub IsActionOf : Slots → ActionCode → Action → Type 0
IsActionOf slots (Evaluate x) (Evaluate e) = IsObjectOf slots x e
IsActionOf slots (Trace t x) (Trace u e) = (t ≡ u) × IsObjectOf slots x e
IsActionOf slots (Print format types xs) (Print written given es) =
    (format ≡ written) × (types ≡ given) × AreObjectsOf slots xs es
IsActionOf slots (Exit x) (Exit e) = IsObjectOf slots x e
IsActionOf slots (Aggregate index xs x) (Aggregate aggregation es e) =
    (index ≡ aggregation) × AreObjectsOf slots xs es × IsOptionalObjectOf slots x e
IsActionOf slots code action = ⊥

-- what a run returns and leaves, unless memory ran out
abbrev pub Gives : Outcome Value → Result Value MachineFault → Variables → Type 0
Gives o (Ok value) vars = o ≡ Has value vars
Gives o (Err DivideByZero) vars = o ≡ Faults vars
Gives o (Err Memory) vars = Unit {0}
