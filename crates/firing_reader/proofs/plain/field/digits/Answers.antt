use Rattle.std.proofs.Common.{arith, ◌≡◌, ◌<◌, ◌≤◌, ◌^◌, take, length, length-take, refl}
use native.Mathlib.Nat.{sub-zero}
use Rattle.std.specs.Prelude.{slice_range}
use Rattle.std.specs.Str.Parse.{digits_value}
use Rattle.core.proofs.dec2flt.Rows.{AllDigits-digits_len}
use Rattle.firing_reader.proofs.PlainFields.{digits_fit}
use Rattle.firing_reader.proofs.plain.field.digits.Goals as goal

pub returns-clause-digits : goal.returns-clause-digits
returns-clause-digits c = AllDigits-digits_len c.args.bytes.now c.read_digits-count.result.0 (omega (arith, c.read_digits-count.ensures.end))

pub returns-clause-value : goal.returns-clause-value
returns-clause-value c =
    let n = c.read_digits-count.result.0 in
    let field = take n c.args.bytes.now in
    let all = AllDigits-digits_len c.args.bytes.now n (omega (arith, c.read_digits-count.ensures.end)) in
    let few : length field ≤ 19 = grind (arith, length-take) in
    let small : digits_value 10 field < 10 ^ 19 = digits_fit field all few in
    let same : slice_range c.args.bytes.now 0 n ≡ field = rw sub-zero refl in
    omega (arith, rw same at c.read_digits-count.ensures.value, small)
