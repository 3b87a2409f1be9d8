-- The built-ins of firings, and variables that were never assigned, are values of their types.
use Rattle.std.specs.Prelude.{◌≡◌, ℕ, ◌-◌, ◌%◌, ◌^◌, ◌<◌, ℤ, pos, negsuc, FitsSigned}
use Rattle.std.proofs.Common.{ap, ◌∙◌, arith, subst}
use Rattle.std.specs.Int.{cast_unsigned, w32, w64}
use Rattle.std.proofs.lemmas.Int.{ints}
use Rattle.std.proofs.lemmas.Nat.{pow_pos}
use Rattle.std.proofs.Math.Nat.{mod-eq_of_lt}
use Rattle.d_values.specs.declared.int_type.IntType.{IntType}
use Rattle.d_values.specs.declared.int_type.DType.{DType}
use Rattle.d_values.specs.declared.int_type.DType.TheVariants as ty
use Rattle.d_values.specs.Numbers.{bits_of}
use Rattle.d_values.specs.Stores.{blank}
use Rattle.d_values.specs.Types.{INT32, INT64, UINT64}
use Rattle.d_values.specs.Words.{sign_extension, narrow}
use Rattle.d_values.proofs.Narrowing.{extended_low}
use Rattle.d_types.specs.Variables.{kind_of_type}
use Rattle.d_types.specs.Held.{IsWord, IsOf, Slots, AreTypedLocals, AreTypedOwn}
use Rattle.d_types.proofs.ValueTypes.{narrow_is}

-- ---- firings

unsigned_is : (z : ℤ) → FitsSigned w64 z → cast_unsigned w64 z ≡ bits_of z
unsigned_is (pos n) fits = omega arith
unsigned_is (negsuc n) fits = omega arith

pub long_is : (z : ℤ) → FitsSigned w64 z → IsWord INT64 (cast_unsigned w64 z)
long_is (pos n) fits = (pos n, record { least = omega (arith, ints); below = omega (arith, ints) }, unsigned_is (pos n) fits)
long_is (negsuc n) fits = (negsuc n, record { least = omega (arith, ints); below = omega (arith, ints) }, unsigned_is (negsuc n) fits)

pub int_is : (z : ℤ) → FitsSigned w32 z → IsWord INT32 (cast_unsigned w64 z)
int_is (pos n) fits = (pos n, record { least = omega (arith, ints); below = omega (arith, ints) }, unsigned_is (pos n) (omega arith))
int_is (negsuc n) fits = (negsuc n, record { least = omega (arith, ints); below = omega (arith, ints) }, unsigned_is (negsuc n) (omega arith))

pub time_is : (n : ℕ) → n < 2 ^ 64 → IsWord UINT64 n
time_is n small = (pos n, record { least = omega (arith, ints); below = omega (arith, ints) }, (let e : n ≡ bits_of (pos n) = omega arith in e))

-- ---- what was never assigned

zero_is : (t : IntType) → IsWord t 0
zero_is t =
    let low : 0 % 2 ^ t.width ≡ 0 = mod-eq_of_lt (pow_pos t.width) in
    let same : narrow t 0 ≡ 0 = ap (sign_extension t) low ∙ extended_low t 0 (pow_pos (t.width - 1)) in
    subst (IsWord t) same (narrow_is t 0)

blank_is : (t : DType) → IsOf t (blank (kind_of_type t))
blank_is (ty.Int t) = zero_is t
blank_is ty.Text = omega arith

pub locals_unassigned : (slots : Slots) → AreTypedLocals slots (λ var. blank var.kind)
locals_unassigned slots slot t known = blank_is t

pub own_unassigned : (slots : Slots) → AreTypedOwn slots (λ var key. blank var.kind)
own_unassigned slots slot t key known = blank_is t
