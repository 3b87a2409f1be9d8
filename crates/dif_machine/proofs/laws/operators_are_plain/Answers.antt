use Rattle.std.specs.Prelude.{◌≡◌, ℤ, ◌%◌, ◌^◌, int_div, int_rem, Ok, true}
use Rattle.std.proofs.Common.{ap, arith, sym, ◌∙◌}
use Rattle.std.specs.Int.{int_shr}
use Rattle.std.proofs.lemmas.Nat.{and_le_l, or_lt, xor_lt}
use Rattle.std.proofs.Math.Nat.{div-le_self, mod-eq_of_lt, mod-le}
use Rattle.d_values.proofs.Residues.{moved, operated}
use Rattle.d_values.specs.Numbers.{bits_of}
use Rattle.dif_machine.specs.Vocabulary.{Divide, Remainder, Right, Or, Xor, And, Srl, Sra, Sdiv}
use Rattle.dif_machine.specs.Vocabulary.{Udiv, Srem, Urem}
use Rattle.d_values.specs.Types.{INT64}
use Rattle.d_values.specs.Words.{narrow}
use Rattle.dif_machine.specs.Plain.{divided_by, signed}
use Rattle.dif_machine.proofs.Numbers.{bits_small, signed_stays}
use Rattle.dif_machine.proofs.laws.operators_are_plain.Goals as goal

stays : (z : ℤ) → narrow INT64 (bits_of z) ≡ bits_of z
stays z = signed_stays (bits_of z) (bits_small z)

pub returns : goal.returns
returns c Or a b x y = ap Ok (mod-eq_of_lt (or_lt 64 a b x y))
returns c Xor a b x y = ap Ok (mod-eq_of_lt (xor_lt 64 a b x y))
returns c And a b x y = ap Ok (mod-eq_of_lt (omega (arith, and_le_l a b)))
returns c Srl a b x y = ap Ok (mod-eq_of_lt (omega (arith, div-le_self a (2 ^ (b % 64)))))
returns c Sra a b x y = ap Ok (ap (narrow INT64) (sym (moved Right true a (b % 64) x)) ∙ stays (int_shr (signed a) (b % 64)))
returns c Sdiv a b x y = ap (divided_by b) (ap (narrow INT64) (sym (operated Divide true a b x y)) ∙ stays (int_div (signed a) (signed b)))
returns c Udiv a b x y = ap (divided_by b) (mod-eq_of_lt (omega (arith, div-le_self a b)))
returns c Srem a b x y = ap (divided_by b) (ap (narrow INT64) (sym (operated Remainder true a b x y)) ∙ stays (int_rem (signed a) (signed b)))
returns c Urem a b x y = ap (divided_by b) (mod-eq_of_lt (omega (arith, mod-le a b)))
returns c _ a b x y = ap Ok (mod-eq_of_lt (omega arith))
