-- Numbers of 64 bits are themselves as words.
use Rattle.std.specs.Prelude.{◌≡◌, ℕ, ℤ, pos, negsuc, ◌+◌, ◌-◌, ◌%◌, ◌^◌, ◌<◌, Bool, true, false}
use Rattle.std.specs.Prelude.{nat_le, if◌then◌else◌}
use Rattle.std.proofs.Common.{◌∙◌, arith, refl}
use Rattle.std.proofs.Math.Nat.{mod-eq_of_lt}
use Rattle.d_values.specs.Numbers.{bits_of}
use Rattle.d_values.specs.Types.{INT64}
use Rattle.d_values.specs.Words.{narrow}

same : (b : Bool) (low : ℕ) → (if b then low + (2 ^ 64 - 2 ^ 64) else low) ≡ low
same true low = omega arith
same false low = refl

pub signed_stays : (n : ℕ) → n < 2 ^ 64 → narrow INT64 n ≡ n
signed_stays n small = same (nat_le (2 ^ 63) (n % 2 ^ 64)) (n % 2 ^ 64) ∙ mod-eq_of_lt small

pub bits_small : (z : ℤ) → bits_of z < 2 ^ 64
bits_small (pos n) = omega arith
bits_small (negsuc n) = omega arith
