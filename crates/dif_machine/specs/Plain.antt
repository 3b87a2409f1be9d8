-- The operators of instructions as arithmetic on whole numbers.
-- Source: Cantrill, Shapiro and Leventhal, "Dynamic Instrumentation of Production Systems" (USENIX
-- 2004), on DIF.
use Rattle.std.specs.Prelude.{ℕ, ℤ, ◌+◌, ◌-◌, ◌*◌, ◌/◌, ◌%◌, ◌^◌, ◌==◌, if◌then◌else◌, Result, Ok}
use Rattle.std.specs.Prelude.{Err, bit_and, bit_or, bit_xor, int_div, int_rem}
use Rattle.std.specs.Int.{int_shr}
use Rattle.d_values.specs.Numbers.{bits_of}
use Rattle.dif_machine.specs.Vocabulary.{cast_signed, w64, OutOfZero, Operator, Or, Xor, And, Sll}
use Rattle.dif_machine.specs.Vocabulary.{Srl, Sra, Sub, Add, Mul, Sdiv, Udiv, Srem, Urem}

-- a register's number, read with a sign
abbrev pub signed : ℕ → ℤ
signed word = cast_signed w64 word

-- refused for a divisor of 0
abbrev pub divided_by : (divisor result : ℕ) → Result ℕ OutOfZero
divided_by divisor result = if divisor == 0 then Err (record {}) else Ok result

-- A shift takes its count modulo 64, and `sra` rounds down. A division cuts toward zero, and its
-- rest has the sign of what was divided. A signed result is kept modulo 2 ^ 64 (`bits_of`).
abbrev pub plain_of : Operator → ℕ → ℕ → Result ℕ OutOfZero
plain_of Or a b = Ok (bit_or a b)
plain_of Xor a b = Ok (bit_xor a b)
plain_of And a b = Ok (bit_and a b)
plain_of Sll a b = Ok ((a * 2 ^ (b % 64)) % 2 ^ 64)
plain_of Srl a b = Ok (a / 2 ^ (b % 64))
plain_of Sra a b = Ok (bits_of (int_shr (signed a) (b % 64)))
plain_of Sub a b = Ok ((a + (2 ^ 64 - b)) % 2 ^ 64)
plain_of Add a b = Ok ((a + b) % 2 ^ 64)
plain_of Mul a b = Ok ((a * b) % 2 ^ 64)
plain_of Sdiv a b = divided_by b (bits_of (int_div (signed a) (signed b)))
plain_of Udiv a b = divided_by b (a / b)
plain_of Srem a b = divided_by b (bits_of (int_rem (signed a) (signed b)))
plain_of Urem a b = divided_by b (a % b)
