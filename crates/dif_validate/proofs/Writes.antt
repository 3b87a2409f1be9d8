-- Registers after a write.
use Rattle.std.specs.Prelude.{◌≡◌, ◌≢◌, ◌⊎◌, ◌<◌, List, length, Option, None, slice_index_or}
use Rattle.std.specs.Prelude.{slice_set}
use Rattle.std.proofs.Common.{refl, ap, ◌∙◌, ⊎_elim, inl, inr, arith}
use Rattle.std.proofs.lemmas.Bool.{cases_eq}
use Rattle.std.proofs.lemmas.List.{get_or-set_same, get_or-set_other}
use Rattle.std.proofs.Math.ListN.{length-set}
use Rattle.dif_validate.specs.declared.register.Reg.{Reg}
use Rattle.dif_validate.specs.declared.register.Reg.TheVariants.{R0, R1, R2, R3, R4, R5, R6, R7}
use Rattle.dif_validate.specs.Registers.{register_number, at, put}

pub number_below : (r : Reg) → register_number r < 8
number_below R0 = omega arith
number_below R1 = omega arith
number_below R2 = omega arith
number_below R3 = omega arith
number_below R4 = omega arith
number_below R5 = omega arith
number_below R6 = omega arith
number_below R7 = omega arith

pub put_set : {A : Type 0} (xs : List (Option A)) (d : Reg) (x : Option A) → register_number d ≢ 0 → put xs d x ≡ slice_set xs (register_number d) x
put_set xs R0 x h = absurd (h refl)
put_set xs R1 x h = refl
put_set xs R2 x h = refl
put_set xs R3 x h = refl
put_set xs R4 x h = refl
put_set xs R5 x h = refl
put_set xs R6 x h = refl
put_set xs R7 x h = refl

pub put_zero : {A : Type 0} (xs : List (Option A)) (d : Reg) (x : Option A) → register_number d ≡ 0 → put xs d x ≡ xs
put_zero xs R0 x h = refl
put_zero xs R1 x h = absurd (omega arith)
put_zero xs R2 x h = absurd (omega arith)
put_zero xs R3 x h = absurd (omega arith)
put_zero xs R4 x h = absurd (omega arith)
put_zero xs R5 x h = absurd (omega arith)
put_zero xs R6 x h = absurd (omega arith)
put_zero xs R7 x h = absurd (omega arith)

pub put_long : {A : Type 0} (xs : List (Option A)) (d : Reg) (x : Option A) → length (put xs d x) ≡ length xs
put_long xs R0 x = refl
put_long xs R1 x = length-set xs 1 x
put_long xs R2 x = length-set xs 2 x
put_long xs R3 x = length-set xs 3 x
put_long xs R4 x = length-set xs 4 x
put_long xs R5 x = length-set xs 5 x
put_long xs R6 x = length-set xs 6 x
put_long xs R7 x = length-set xs 7 x

-- a register has what was written, whatever it is, or what it had
abbrev pub IsWritten : (A : Type 0) (d r : Reg) → Type 0
IsWritten A d r =
    ((xs : List (Option A)) (x : Option A) → length xs ≡ 8 → at (put xs d x) r ≡ x)
    ⊎ ((xs : List (Option A)) (x : Option A) → at (put xs d x) r ≡ at xs r)

pub written : (A : Type 0) (d r : Reg) → IsWritten A d r
written A d r =
    ⊎_elim
    (λ (z : register_number d ≡ 0). inr (λ xs x. ap (λ ys. at ys r) (put_zero xs d x z)))
    (λ (nz : register_number d ≢ 0).
    ⊎_elim
    (λ (same : register_number r ≡ register_number d).
    inl (λ xs x long.
    let inside : register_number d < length xs = omega (arith, number_below d) in
    ap (λ ys. at ys r) (put_set xs d x nz) ∙ ap (λ n. slice_index_or (slice_set xs (register_number d) x) n None) same ∙ get_or-set_same xs (register_number d) x None inside))
    (λ (other : register_number r ≢ register_number d).
    inr (λ xs x. ap (λ ys. at ys r) (put_set xs d x nz) ∙ get_or-set_other xs (register_number d) (register_number r) x None other))
    (cases_eq (register_number r) (register_number d)))
    (cases_eq (register_number d) 0)
