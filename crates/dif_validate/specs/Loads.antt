-- Objects that only load a value and return it.
use Rattle.std.specs.Prelude.{◌≡◌, ◌<◌, ◌≤◌, ℕ, Some, slice_get}
use Rattle.d_values.specs.declared.variable.Var.{Var}
use Rattle.dif_validate.specs.Objects.{Object}
use Rattle.dif_validate.specs.Vocabulary.{Instr, Setx, Ldgs, Ldga, Ldts, Ldls, Ret}
use Rattle.dif_validate.specs.Vocabulary.{Pushtr, Ldtaa, Flushts}
use Rattle.dif_validate.specs.declared.load.Load.{Load}
use Rattle.dif_validate.specs.declared.load.Load.TheVariants.{BuiltIn, Argument, Local, Scalar}
use Rattle.dif_validate.specs.declared.load.Load.TheVariants.{Element, Nothing}
use Rattle.dif_validate.specs.declared.register.Reg.TheVariants.{R1}

-- the code is an instruction, and a return of the first free register
pub record IsAlone (o : Object) (i : Instr) : Type 0 where
  pub first : slice_get o.code 0 ≡ Some i
  pub second : slice_get o.code 1 ≡ Some (Ret R1)

-- the code is a number, the argument of this number, and a return
pub record IsArgument (o : Object) (n : ℕ) : Type 0 where
  pub i : ℕ
  pub number : slice_get o.numbers i ≡ Some n
  pub first : slice_get o.code 0 ≡ Some (Setx i R1)
  pub second : slice_get o.code 1 ≡ Some (Ldga 0 R1 R1)
  pub third : slice_get o.code 2 ≡ Some (Ret R1)

-- the code is a built-in variable, which makes a key, the element there, and a return
pub record IsElement (o : Object) (x : Var) (v : ℕ) : Type 0 where
  pub first : slice_get o.code 0 ≡ Some (Ldgs v R1)
  pub second : slice_get o.code 1 ≡ Some (Pushtr R1)
  pub third : slice_get o.code 2 ≡ Some (Ldtaa x R1)
  pub fourth : slice_get o.code 3 ≡ Some Flushts
  pub fifth : slice_get o.code 4 ≡ Some (Ret R1)
  pub text : 4 ≤ v
  pub there : v < 9

-- all that an object does is to load this
abbrev pub Loads : Load → Object → Type 0
Loads (BuiltIn v) o = IsAlone o (Ldgs v R1) × (v < 9)
Loads (Argument n) o = IsArgument o n
Loads (Local x) o = IsAlone o (Ldls x R1)
Loads (Scalar x) o = IsAlone o (Ldts x R1)
Loads (Element x v) o = IsElement o x v
Loads Nothing o = Unit {0}
